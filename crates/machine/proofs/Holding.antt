-- A channel that was given is not given again before its release.
use Rattle.std.proofs.Common.{◌≡◌, ℕ, ◌<◌, Bool, true, false, length, Some, None, Ok, Err, Option, Result, sym, refl, ap, ◌∙◌, subst, arith}
use Rattle.std.proofs.lemmas.Bool.{eqb-true}
use Rattle.memory.specs.Views.{View}
use Rattle.numbers.specs.declared.channel.Channel.{Channel}
use Rattle.machine.specs.Calls.{Refused, lowest_free}
use Rattle.machine.specs.Histories.{reserved_told, given_to, held}
use Rattle.machine.specs.Laws.{GivenFree, Allotted}
use Rattle.machine.specs.Means.{Mean}
use Rattle.machine.specs.Soundness.{new_mean, Sound}
use Rattle.machine.specs.Steps.{Call, reserve, release, put, fill, start, stop, quiet, wake, look, status, turn, Step, Seen, seen, History, Run, begin, next, done_unless, word_or, given_or}
use Rattle.machine.specs.declared.answer.Answer.{Answer}
use Rattle.machine.specs.declared.fault.ChannelFault.{ChannelFault}
use Rattle.machine.specs.declared.fault.ChannelFault.TheVariants as fault
use Rattle.machine.proofs.KeptCalls.{Free, lowest_free_is}
use Rattle.machine.proofs.Linked.{Linked, linked, now_seen_is, SoundRuns}
use Rattle.machine.proofs.TraceStatus.{reserved_told_is}

-- an answer that gives no channel
abbrev GivesNone : Answer → Type 0
GivesNone a = (c : ℕ) → given_to c a ≡ false

done_gives_none : (o : Refused) → GivesNone (done_unless o)
done_gives_none None c = refl
done_gives_none (Some f) c = refl

word_gives_none : (x : Result ℕ ChannelFault) → GivesNone (word_or x)
word_gives_none (Ok w) c = refl
word_gives_none (Err f) c = refl

-- the channel that a step gives was not held before it
abbrev WasFree : History → Answer → Type 0
WasFree h a = (c : ℕ) → given_to c a ≡ true → held c h ≡ false

gave_none : (h : History) (a b : Answer) → a ≡ b → GivesNone b → WasFree h a
gave_none h a b is none c given = absurd (let z : ◌≡◌ {A = Bool} true false = sym given ∙ ap (given_to c) is ∙ none c in let y : ◌≡◌ {A = ℕ} 1 0 = cc in omega arith)

abbrev given_by : Option ℕ → Result Channel ChannelFault
given_by o = elim o [ None ↦ Err fault.NoneFree | Some c ↦ Ok (record { 0 = c }) ]

reserve_free : (h : History) (m : Mean) (o : Option ℕ) → length m.records ≡ 16 → Linked h m → Free m.records o → WasFree h (given_or (given_by o))
reserve_free h m None wide link free c given = absurd (let y : ◌≡◌ {A = ℕ} 0 1 = cc in omega arith)
reserve_free h m (Some d) wide link free c given =
    subst (λ (k : ℕ). held k h ≡ false) (eqb-true d c given)
    (let low : d < 16 = omega (arith, free.0, wide) in sym (link d low).reserved ∙ free.1)

free_step : (call : Call) (h : History) (a : Answer) (m n : Mean) (v w : View) → Sound m v → Linked h m → Step call a m v n w → WasFree h a
free_step reserve h a m n v w sound link (is, _, _) =
    subst (WasFree h) (sym is) (reserve_free h m (lowest_free m.records) sound.wide link (lowest_free_is m.records))
free_step (release c) h a m n v w sound link (is, _, _) = gave_none h a _ is (done_gives_none _)
free_step (put c p x) h a m n v w sound link (is, _, _) = gave_none h a _ is (done_gives_none _)
free_step (fill c bytes) h a m n v w sound link (is, _, _) = gave_none h a _ is (done_gives_none _)
free_step (start c words) h a m n v w sound link (is, _, _) = gave_none h a _ is (done_gives_none _)
free_step (stop c) h a m n v w sound link (is, _, _) = gave_none h a _ is (done_gives_none _)
free_step quiet h a m n v w sound link (is, _, _) = gave_none h a _ is (λ c. refl)
free_step wake h a m n v w sound link (is, _, _) = gave_none h a _ is (λ c. refl)
free_step (look c p) h a m n v w sound link (is, _, _) = gave_none h a _ is (word_gives_none _)
free_step (status c) h a m n v w sound link (is, _, _) = gave_none h a _ is (word_gives_none _)
free_step turn h a m n v w sound link (t, is, _) = gave_none h a _ is (λ c. refl)

given_free : (opening : View) → SoundRuns opening → {h : History} {m : Mean} {v : View} → Run new_mean opening h m v → GivenFree h
given_free opening sound begin = tt
given_free opening sound (next {h} {m} {n} {v} {w} {c} {a} run step) =
    (free_step c h a m n v w (sound h m v run) (linked opening sound run) step, given_free opening sound run)

pub allotted : (opening : View) → SoundRuns opening → {h : History} {m : Mean} {v : View} → Run new_mean opening h m v → Allotted (seen new_mean opening) h
allotted opening sound {h} {m} {v} run =
    record {
      told = λ c low. ap (λ (s : Seen). reserved_told s c) (now_seen_is run) ∙ reserved_told_is m v c ∙ (linked opening sound run c low).reserved;
      given_free = given_free opening sound run;
    }
