-- Three words and the program that they say determine each other.
use Rattle.std.proofs.Common.{◌≡◌, ℕ, true, false, not, ◌&&◌, eqb, is_some, IfOk, Some, None, Ok, Err, Option, Result, unwrap_or, sym, refl, ap, ◌∙◌, subst, le_refl, arith, eq-eqb}
use mir.Val.{bool_byte}
use Rattle.std.proofs.lemmas.Bool.{cond_both}
use Rattle.std.proofs.lemmas.Bool.Decides.{nat_tests}
use Rattle.numbers.specs.declared.place.Place.{Place}
use Rattle.operators.specs.Modes.{sending, sent, mode_of}
use Rattle.operators.specs.declared.action.Action.{Action}
use Rattle.operators.specs.declared.action.Action.TheVariants as action
use Rattle.operators.specs.declared.mode.Mode.{Mode}
use Rattle.operators.specs.declared.mode.Mode.TheVariants as mode
use Rattle.program.specs.Headers.{mode_number, operator_number, read_header, write_header, ReadAs}
use Rattle.program.specs.Layout.{read_single, read_block, read_places, read_rest, read_program, header_of, write_program, ReadsAs}
use Rattle.program.specs.Ranges.{range_of}
use Rattle.program.specs.declared.fault.ProgramFault.{ProgramFault}
use Rattle.program.specs.declared.fault.WordsFault.{WordsFault}
use Rattle.program.specs.declared.header.Header.{Header}
use Rattle.program.specs.declared.kind.Program.{Program}
use Rattle.program.specs.declared.kind.Program.TheVariants.{Block, Single}
use Rattle.program.specs.declared.kind.Single.{Single as SingleProgram}
use Rattle.program.specs.declared.layout.Words.{Words}
use Rattle.program.specs.declared.range.PlaceRange.{PlaceRange}
use Rattle.program.proofs.HeaderTrips.{header_back}
use Rattle.program.proofs.Ordered.{range_some, range_of_is}

action_again : (a : Action) → sending (mode_of a) (unwrap_or (sent a) 0) ≡ a
action_again action.Load = refl
action_again (action.Store w) = refl
action_again (action.Mp o w) = refl
action_again (action.Sync o w) = refl

-- a third word is 0 where it is not sent
third_clear : (a : Action) → (not (is_some (sent a)) && not (eqb (unwrap_or (sent a) 0) 0)) ≡ false
third_clear action.Load = refl
third_clear (action.Store w) = refl
third_clear (action.Mp o w) = refl
third_clear (action.Sync o w) = refl

same : (n : ℕ) → eqb n n ≡ true
same n = eq-eqb n n refl

single_again : (s : SingleProgram) → read_single (header_of (Single s)) (write_program (Single s)) ≡ Ok (Single s)
single_again s = rw (same s.place.0, action_again s.action, third_clear s.action) refl

abbrev only : Place → PlaceRange
only p = record { first = p; last = p; ordered = le_refl p.0 }

-- reading, where the first word says h and the range is known
read_known : (h : Header) (r : PlaceRange) (w : Words) → read_header w.first ≡ Ok h → range_of h.first h.last ≡ Some r → read_program w ≡ read_places h (Some r) w
read_known h r w says known =
    ap (λ (x : Result Header WordsFault). read_rest x w) says ∙ ap (λ (o : Option PlaceRange). read_places h o w) known

program_again : (p : Program) → read_header (write_program p).first ≡ Ok (header_of p) → read_program (write_program p) ≡ Ok p
program_again (Block b) says = read_known (header_of (Block b)) b.range (write_program (Block b)) says (range_some b.range)
program_again (Single s) says =
    read_known (header_of (Single s)) (only s.place) (write_program (Single s)) says (range_some (only s.place)) ∙ single_again s

mode_back : (m : Mode) (w : ℕ) → mode_of (sending m w) ≡ m
mode_back mode.Load w = refl
mode_back mode.Store w = refl
mode_back (mode.Mp o) w = refl
mode_back (mode.Sync o) w = refl

third_back : (m : Mode) (w : ℕ) → (not (is_some (sent (sending m w))) && not (eqb w 0)) ≡ false → unwrap_or (sent (sending m w)) 0 ≡ w
third_back mode.Load w clear = grind (arith, nat_tests)
third_back mode.Store w clear = refl
third_back (mode.Mp o) w clear = refl
third_back (mode.Sync o) w clear = refl

abbrev Back : Words → Result Program ProgramFault → Type 0
Back w r = IfOk r (λ p. write_program p ≡ w)

words_are : (w : Words) (first third : ℕ) → first ≡ w.first → third ≡ w.third → record { first = first; second = w.second; third = third } ≡ w
words_are w first third e f =
    ap (λ (x : ℕ). record { first = x; second = w.second; third = third }) e ∙ ap (λ (x : ℕ). record { first = w.first; second = w.second; third = x }) f

-- a first word depends on the numbers in its header alone
header_is : (h g : Header) → g.first.0 ≡ h.first.0 → g.last.0 ≡ h.last.0 → g.mode ≡ h.mode → g.single ≡ h.single → write_header g ≡ write_header h
header_is h g from to mode single =
    let m = ap mode_number mode in let o = ap operator_number mode in let b = ap bool_byte single in omega arith

single_back : (h : Header) (w : Words) → h.single ≡ true → write_header h ≡ w.first → Back w (read_single h w)
single_back h w single first =
    cond_both (not (eqb h.first.0 h.last.0)) _ _ (Back w) (λ _. tt) (λ one.
    cond_both (not (is_some (sent (sending h.mode w.third))) && not (eqb w.third 0)) _ _ (Back w) (λ _. tt) (λ clear.
    let ends : h.first.0 ≡ h.last.0 = grind (arith, nat_tests) in
    words_are w _ _ (header_is h _ refl ends (mode_back h.mode w.third) (sym single) ∙ first) (third_back h.mode w.third clear)))

block_back : (h : Header) (r : PlaceRange) (w : Words) → h.single ≡ false → r.first ≡ h.first → r.last ≡ h.last → write_header h ≡ w.first → Back w (read_block h r w)
block_back h r w block from to first =
    cond_both (not (eqb w.third 0)) _ _ (Back w) (λ _. tt) (λ none.
    let third : 0 ≡ w.third = grind (arith, nat_tests) in
    words_are w _ _ (header_is h _ (ap (λ (p : Place). p.0) from) (ap (λ (p : Place). p.0) to) refl (sym block) ∙ first) third)

places_back : (h : Header) (o : Option PlaceRange) (w : Words) → range_of h.first h.last ≡ o → write_header h ≡ w.first → Back w (read_places h o w)
places_back h None w e first = tt
places_back h (Some r) w e first =
    let ends = range_of_is h.first h.last r e in
    cond_both h.single _ _ (Back w) (λ single. single_back h w single first) (λ block. block_back h r w block ends.0 ends.1 first)

rest_back : (o : Result Header WordsFault) (w : Words) → IfOk o (λ h. write_header h ≡ w.first) → Back w (read_rest o w)
rest_back (Err f) w back = tt
rest_back (Ok h) w back = places_back h (range_of h.first h.last) w refl back

pub program_back : (w : Words) → IfOk (read_program w) (λ p. write_program p ≡ w)
program_back w = rest_back (read_header w.first) w (header_back w.first)

-- the same of a result that is known to be the one read
pub read_back : (w : Words) (r : Result Program ProgramFault) → r ≡ read_program w → (p : Program) → r ≡ Ok p → write_program p ≡ w
read_back w r e p ok = subst (Back w) (sym e ∙ ok) (program_back w)

-- words that are known to be the ones written are read as the program that they were written from
pub write_again : (p : Program) (h : Header) (first : ℕ) (w : Words) → h ≡ header_of p → ReadAs first h → first ≡ (write_program p).first → w ≡ write_program p → ReadsAs w p
write_again p h first w said says e same =
    record { reads = ap read_program same ∙ program_again p (ap read_header (sym e) ∙ says.reads ∙ ap (λ (x : Header). Ok x) said) }
