use Rattle.std.proofs.Common.{◌≡◌, ◌∙◌, Some, slice_get, slice_index_or, refl, sym, ap, subst}
use Rattle.std.proofs.lemmas.Option.{slice_get_read}
use Rattle.std.proofs.lemmas.Slice.Eq.{bytes_eq-Decides}
use Rattle.te_report.specs.FirstPlaces.{place_of_name, IsFirstPlace}
use Rattle.te_report.proofs.PlacesIndexed.{told_at}
use Rattle.te_report.proofs.indexed.IndexedNames.place.Goals as goal

pub returns-then-eq-clause-value : goal.returns-then-eq-clause-value
returns-then-eq-clause-value c =
    let names = c.as_slice-names.result.now in
    let place = slice_index_or c.self.inside.likely c.slot.result 0 in
    let n = c.index-names-likely.result in
    let there : slice_get names place ≡ Some n = slice_get_read names _ place n refl c.if-likely-names.true c.index-names-likely.is in
    let same : n ≡ c.args.name.now = sym c.bytes.ensures.value ∙ (bytes_eq-Decides c.bytes.result.now c.args.name.now).0 (sym c.if-eq.ensures) in
    let first : IsFirstPlace names place = subst (λ l. IsFirstPlace l place) (sym c.as_slice-names.ensures)
    (told_at c.self.inside.names c.self.inside.likely c.slot.result c.self.invariant) in
    let found : place_of_name names c.args.name.now ≡ Some place = subst (λ m. place_of_name names m ≡ Some place) same (first n there) in
    sym (ap (λ l. place_of_name l c.args.name.now) (sym c.self.view_is ∙ sym c.as_slice-names.ensures) ∙ found)
