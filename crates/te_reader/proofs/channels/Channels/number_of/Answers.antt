use Rattle.std.proofs.Common.{sym, ◌∙◌, ap}
use Rattle.std.specs.Prelude.{slice_index}
use Rattle.std.proofs.lemmas.Slice.Eq.{bytes_eq-Decides}
use Rattle.te_reader.specs.NameReads.{first_place_of}
use Rattle.te_reader.proofs.ChannelIndexLemmas.{no_mark, is_marked}
use Rattle.te_reader.proofs.channels.Channels.number_of.Goals as goal

pub returns-then-slot-eq0 : goal.returns-then-slot-eq0
returns-then-slot-eq0 c =
    let none = ap (slice_index c.self.inside.slots) (sym c.slot_of.ensures.value) ∙ c.if-slot-eq0.true in
    sym (no_mark c.self.inside.names c.self.inside.numbers c.self.inside.slots c.args.name.now c.self.invariant none) ∙ ap (λ ns. first_place_of ns c.args.name.now) c.self.view_is

pub returns-in-Some : goal.returns-in-Some
returns-in-Some c =
    let same = sym c.bytes.ensures.value ∙ (bytes_eq-Decides c.bytes.result.now c.args.name.now).0 (sym c.eq.ensures ∙ c.if-eq.true) in
    sym (is_marked c.self.inside.names c.self.inside.numbers c.self.inside.slots _ c.args.name.now c.in-Some.found.now c.self.invariant c.in-Some.ensures.value same)
    ∙ ap (λ ns. first_place_of ns c.args.name.now) c.self.view_is
