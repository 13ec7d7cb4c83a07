use Rattle.std.proofs.Common.{ap, codes, arith, ltb-false, ltb-true}
use Rattle.std.proofs.lemmas.Slice.Eq.{text_from_reads}
use Rattle.std.specs.Option.{option_map}
use Rattle.commands.specs.Piles.{Catalogue}
use Rattle.commands.proofs.piles.read_named.Goals as goal

pub returns-in_ok-read_list-in-catalogue : goal.returns-in_ok-read_list-in-catalogue
returns-in_ok-read_list-in-catalogue c =
    let name = text_from_reads c.args.name.now (codes "catalogue") (omega (arith, ltb-true, ltb-false)) (omega arith) in
    rw name (ap (option_map Catalogue) c.in_ok-read_list-in-catalogue.ensures)
