-- Syncs one behind another, whose events share a code.
use Rattle.std.proofs.Common.{◌≡◌, ◌+◌, [], ◌∷◌, ◌++◌, length, map, ◌∙◌, ap, arith, length-append}
use Rattle.std.proofs.lemmas.List.{map-append}
use Rattle.te_terms.proofs.Lists.{AllByRecursion-append}
use Rattle.te_reader.specs.Written.{draft_of, IsDraft}
use Rattle.te_reader.proofs.WrittenLemmas.{written_push}
use Rattle.te_reader.proofs.DraftLemmas.{drafts_stay, drafts_inside}
use Rattle.te_reader.proofs.sync.read_drafts.Goals as goal

pub drafts-preserved : goal.drafts-preserved
drafts-preserved c =
    let old = c.drafts.drafts.items in
    let draft = c.in-Ok.draft in
    let code = c.read_draft-in-drafts.new.code in
    let pushed = c.in_ok-push-in-Ok.ensures.items in
    let read = c.in-Ok.ensures.draft in
    let more = c.in-Ok.ensures.extends in
    let long : length c.push-in-Ok.new.self.items ≡ length old + 1 = ap length pushed ∙ length-append old (draft ∷ []) in
    let same : map (draft_of code) old ≡ map (draft_of c.drafts.code) old = drafts_stay c.drafts.code code c.len-in-drafts.ensures.forest more old c.drafts.invariant.roots in
    let listed : map (draft_of code) c.push-in-Ok.new.self.items ≡ map (draft_of c.drafts.code) old ++ draft_of code draft ∷ [] =
    ap (map (draft_of code)) pushed ∙ map-append (draft_of code) old (draft ∷ []) ∙ ap (λ xs. xs ++ draft_of code draft ∷ []) same in
    let here = rw c.copy-ahead.ensures at read.0 in
    record {
      written = rw listed (written_push c.args.channels.now c.args.registers.now _ _ c.args.cursor.now.tokens _ _
          (map (draft_of c.drafts.code) old) (draft_of code draft) c.drafts.invariant.written here);
      some = omega (arith, long);
      within = omega (arith, long, c.len.ensures, c.drafts-test.true);
      whole = read.1 ∙ ap (λ s. s.whole) c.copy-ahead.ensures ∙ c.drafts.invariant.whole;
      few = c.in-Ok.ensures.few;
      roots = rw pushed (AllByRecursion-append (IsDraft code) old draft (drafts_inside c.drafts.code code more old c.drafts.invariant.roots) read.2);
    }

pub returns-in-Err-Refused-clause-read : goal.returns-in-Err-Refused-clause-read
returns-in-Err-Refused-clause-read c =
    let old = c.drafts.drafts.items in
    let code = c.read_draft-in-drafts.new.code in
    let refused = rw c.in-Err-Refused.field-0-is at c.in-Err-Refused.ensures.draft in
    record {
      some = c.drafts.invariant.some;
      within = c.drafts.invariant.within;
      written =
          rw (drafts_stay c.drafts.code code c.len-in-drafts.ensures.forest c.in-Err-Refused.ensures.extends old c.drafts.invariant.roots, refused.0)
          c.drafts.invariant.written;
    }

pub returns-in-Err-Refused-clause-roots : goal.returns-in-Err-Refused-clause-roots
returns-in-Err-Refused-clause-roots c = drafts_inside c.drafts.code c.read_draft-in-drafts.new.code c.in-Err-Refused.ensures.extends c.drafts.drafts.items c.drafts.invariant.roots
