-- The channel that is served next, and room for its piece.
use Rattle.std.proofs.Common.{◌≡◌, ℕ, ◌+◌, ◌<◌, ◌≤◌, length, Some, sym, arith}
use Rattle.memory.specs.Views.{View}
use Rattle.numbers.specs.declared.channel.Channel.{Channel}
use Rattle.machine.specs.Means.{Mean, record_of}
use Rattle.machine.specs.Soundness.{Sound, dues}
use Rattle.program.specs.Pieces.{span_len}
use Rattle.machine.specs.Turns.{serviced, next_piece}
use Rattle.machine.proofs.KeptCounts.{few_due}
use Rattle.machine.proofs.KeptService.{serves}

pub record Next (m : Mean) (v : View) (c : ℕ) : Type 0 where
  pub low : c < 16
  pub long : length (record_of m c).window ≡ 256
  pub unsent : (record_of m c).program.first + (record_of m c).counts.sent ≤ (record_of m c).program.last
  pub within : (record_of m c).program.last < 256
  pub from : (record_of m c).program.first ≤ (next_piece (record_of m c)).from
  pub room : length v.transit + span_len (next_piece (record_of m c)) ≤ 32
  pub flight : length m.flight < 4
  pub few : (record_of m c).counts.sent < 256

pub next : (m : Mean) (v : View) (c : Channel) → Sound m v → Some c ≡ serviced m → Next m v c.0
next m v c sound chosen =
    let s = serves m v c sound (sym chosen) in
    let h = sound.channels c.0 s.low in
    let p = s.piece in
    let free = s.room in
    let three : length m.flight ≤ 3 = omega (arith, free) in
    let most : length (dues m.flight) ≤ 24 = omega (arith, few_due m.flight 3 sound.pieces_fit three) in
    record {
      low = s.low;
      long = h.window;
      unsent = omega (arith, p.from_is, p.rises, p.to_last);
      within = p.within;
      from = omega (arith, p.from_is);
      room = omega (arith, sound.tied, most, p.short);
      flight = free;
      few = omega (arith, p.from_is, p.rises, p.to_last, p.within);
    }
