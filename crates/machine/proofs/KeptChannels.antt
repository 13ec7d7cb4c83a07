-- One channel of a sound mover in plain terms: its record, how often it stands in each line, its final pieces, its places due.
-- A change of the mover is then a change of these for one channel, and of nothing for the others.
use Rattle.std.proofs.Common.{◌≡◌, ℕ, ◌<◌, ◌≤◌, Bool, ◌≢◌, List, length, get_or, set, sym, refl, ap, ◌∙◌, subst, ⊎_elim, arith}
use Rattle.std.proofs.lemmas.List.{get_or-set_same, get_or-set_other, length-set}
use Rattle.std.proofs.lemmas.Bool.{cases_eq}
use Rattle.memory.specs.Views.{View}
use Rattle.machine.specs.Means.{Mean, Window, record_of, with_record, absent}
use Rattle.machine.specs.Soundness.{times, finals, dues, places_due, FinalLast, ChannelsFit, PiecesFit, Stands, ChannelSound, Sound}
use Rattle.machine.specs.declared.record.Record.{Record}

pub same_stands : (q r : Record) (t c g s b f : ℕ) (qs ps : List ℕ) → q ≡ r → t ≡ s → c ≡ b → g ≡ f → qs ≡ ps → Stands r s b f ps → Stands q t c g qs
same_stands q r t c g s b f qs ps er es eb ef ep h =
    subst (λ (x : Record). Stands x t c g qs) (sym er)
    (subst (λ (x : ℕ). Stands r x c g qs) (sym es)
    (subst (λ (x : ℕ). Stands r s x g qs) (sym eb)
    (subst (λ (x : ℕ). Stands r s b x qs) (sym ef) (subst (λ (x : List ℕ). Stands r s b f x) (sym ep) h))))

pub channel_from : (m : Mean) (c : ℕ) (r : Record) (s b f : ℕ) (ps : List ℕ) → record_of m c ≡ r → times c m.singles ≡ s → times c m.blocks ≡ b
    → finals c m.flight ≡ f → places_due c (dues m.flight) ≡ ps → Stands r s b f ps → ChannelSound m c
channel_from m c r s b f ps er es eb ef ep h = same_stands _ r _ _ _ s b f _ ps er es eb ef ep h

-- where a channel stands is the same in both
pub record Alike (m n : Mean) (d : ℕ) : Type 0 where
  pub singles : times d n.singles ≡ times d m.singles
  pub blocks : times d n.blocks ≡ times d m.blocks
  pub finals : finals d n.flight ≡ finals d m.flight
  pub places : places_due d (dues n.flight) ≡ places_due d (dues m.flight)

-- what the lines and the flight are asked as a whole
pub record Whole (m : Mean) (v : View) : Type 0 where
  pub singles_fit : ChannelsFit m.singles
  pub blocks_fit : ChannelsFit m.blocks
  pub pieces_fit : PiecesFit m.flight
  pub few : length m.flight ≤ 4
  pub finals_last : FinalLast m.flight
  pub tied : length v.transit ≡ length (dues m.flight)

-- one channel changed, and the others stand as they did
pub changed : (m n : Mean) (v w : View) (c : ℕ) (r : Record) (s b f : ℕ) (ps : List ℕ) → Sound m v → c < 16 → n.records ≡ set m.records c r
    → times c n.singles ≡ s → times c n.blocks ≡ b → finals c n.flight ≡ f → places_due c (dues n.flight) ≡ ps → Stands r s b f ps
    → ((d : ℕ) → d ≢ c → Alike m n d) → Whole n w → Sound n w
changed m n v w c r s b f ps sound low er es eb ef ep h others whole = record {
  wide = ap length er ∙ length-set m.records c r ∙ sound.wide;
  channels = λ d near.
      ⊎_elim
      (λ same. subst (ChannelSound n) (sym same)
      (channel_from n c r s b f ps (ap (λ (l : List Record). get_or l c absent) er ∙ get_or-set_same m.records c r absent (omega (arith, sound.wide))) es eb ef ep h))
      (λ apart. let k = others d apart in
      channel_from n d (record_of m d) _ _ _ _ (ap (λ (l : List Record). get_or l d absent) er ∙ get_or-set_other m.records c d r absent apart)
      k.singles k.blocks k.finals k.places ((sound.channels d near)))
      (cases_eq d c);
  singles_fit = whole.singles_fit;
  blocks_fit = whole.blocks_fit;
  pieces_fit = whole.pieces_fit;
  few = whole.few;
  finals_last = whole.finals_last;
  tied = whole.tied;
}

pub replaced : (m : Mean) (v : View) (c : ℕ) (r : Record) → Sound m v → c < 16
    → Stands r (times c m.singles) (times c m.blocks) (finals c m.flight) (places_due c (dues m.flight)) → Sound (with_record m c r) v
replaced m v c r sound low h =
    changed m (with_record m c r) v v c r _ _ _ _ sound low refl refl refl refl refl h (λ d apart. record { singles = refl; blocks = refl; finals = refl; places = refl })
    (record {
      singles_fit = sound.singles_fit;
      blocks_fit = sound.blocks_fit;
      pieces_fit = sound.pieces_fit;
      few = sound.few;
      finals_last = sound.finals_last;
      tied = sound.tied;
    })

-- another window of the same length, and other marks of error and stop
pub remarked : (r : Record) (s b f : ℕ) (ps : List ℕ) (error stop : Bool) (w : Window) → length w ≡ 256 → Stands r s b f ps
    → Stands (record { flags = record { reserved = r.flags.reserved; running = r.flags.running; error = error; stop = stop }; counts = r.counts; program = r.program; window = w }) s b f ps
remarked r s b f ps error stop w long h = record {
  window = long;
  placed = h.placed;
  single_line = h.single_line;
  block_line = h.block_line;
  held = h.held;
  ordered = h.ordered;
  within = h.within;
  one_place = h.one_place;
  landed_sent = h.landed_sent;
  sent_all = h.sent_all;
  unsent = h.unsent;
  due = h.due;
}
