use Rattle.std.proofs.Common.{◌≡◌, ◌∙◌, Some, slice_get, refl, sym, ap, eqb-true}
use Rattle.std.proofs.lemmas.Option.{slice_get_read}
use Rattle.te_report.specs.FirstPlaces.{place_of_name}
use Rattle.te_report.proofs.PlacesIndexed.{stands_first}
use Rattle.te_report.proofs.indexed.is_first.Goals as goal

pub returns-in-Some : goal.returns-in-Some
returns-in-Some c = λ yes.
    let names = c.args.names.now in
    let n = c.index-names-place.result in
    let there : slice_get names c.args.place ≡ Some n = slice_get_read names _ c.args.place n refl c.requires c.index-names-place.is in
    let found : place_of_name names n ≡ Some c.in-Some.first =
    ap (place_of_name names) (sym c.bytes.ensures.value) ∙ sym c.first_place.ensures.value ∙ c.in-Some.is in
    stands_first names c.args.place n there (found ∙ ap Some (eqb-true c.in-Some.first c.args.place yes))
