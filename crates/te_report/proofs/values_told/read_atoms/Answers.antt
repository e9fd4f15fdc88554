use Rattle.std.proofs.Common.{◌+◌, ◌≤◌, ◌∙◌, sym, take, slice_set, arith, subst, length}
use Rattle.te_report.specs.Sayings.{said_atom}
use Rattle.te_report.proofs.Cuts.{word_done, words_done}
use Rattle.te_report.proofs.AtomsTold.{few_kept, length_set, over_four, one_more, few_taken}
use Rattle.te_report.proofs.values_told.read_atoms.Goals as goal

pub returns-then-len-eq4 : goal.returns-then-len-eq4
returns-then-len-eq4 c =
    let i = c.words.invariant in
    c.unit.ensures ∙ sym (over_four (said_atom c.args.called.now) c.words.atoms c.words.len 44 c.words.rest.now
    c.is_empty.result _ i.four c.if-len-eq4.true c.is_empty.ensures c.words-test.true i.whole)

pub words-preserved : goal.words-preserved
words-preserved c =
    let i = c.words.invariant in
    record {
      few = (let low = i.few in let other = c.if-len-eq4.false in omega arith);
      four = length_set c.words.atoms c.words.len c.read_atom.result ∙ i.four;
      whole =
          word_done (said_atom c.args.called.now) (take c.words.len c.words.atoms)
          (take (c.words.len + 1) (slice_set c.words.atoms c.words.len c.read_atom.result)) c.read_atom.result 44
          c.words.rest.now
          c.cut.result.0.now c.cut.result.1.now c.is_empty.result c.is_empty.ensures c.words-test.true c.cut.ensures.front c.cut.ensures.back c.read_atom.ensures
          (one_more c.words.atoms c.words.len c.read_atom.result i.four i.few c.if-len-eq4.false) _ i.whole;
    }

pub returns : goal.returns
returns c =
    let i = c.words.invariant in
    let whole = words_done (said_atom c.args.called.now) (take c.words.len c.words.atoms) 44 c.words.rest.now c.is_empty.result c.is_empty.ensures c.words-test.false _ i.whole in
    c.value_of.ensures ∙ whole ∙ sym (few_kept _ (subst (λ v. length v ≤ 4) whole (few_taken c.words.atoms c.words.len i.few)))
