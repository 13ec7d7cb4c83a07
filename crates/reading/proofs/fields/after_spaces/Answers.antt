use Rattle.std.proofs.lemmas.List.{take_rest}
use Rattle.reading.proofs.Spaces.{spaces_passed}
use Rattle.reading.proofs.fields.after_spaces.Goals as goal

pub returns-clause-bytes : goal.returns-clause-bytes
returns-clause-bytes c = rw (take_rest, c.spaces_len.ensures.len) (spaces_passed c.args.bytes.now)
