use Rattle.std.proofs.Common.{◌≡◌, ◌∙◌, ap, sym, subst, refl, true, map, inl, inr}
use Rattle.std.specs.String.{string_bytes}
use Rattle.clap.specs.Words.{App, is_simple, matches_of, is_simple_and_free, Kinds, IsAmong, kind_of}
use Rattle.clap.specs.Faults.{fault_of}
use Rattle.clap.proofs.OnLiterals.{clap_on_literals}
use Rattle.tevents.specs.Words.{program}
use Rattle.tevents.proofs.words.matches.Goals as goal

simple : is_simple program ≡ true
unfolding program clap_on_literals
simple = refl

simple_and_free : is_simple_and_free program ≡ true
unfolding program clap_on_literals
simple_and_free = refl

pub returns-in-Ok-try_get_matches_from-clause-rows :
    goal.returns-in-Ok-try_get_matches_from-clause-rows
returns-in-Ok-try_get_matches_from-clause-rows c =
    (c.in-Ok-try_get_matches_from.ensures.matches (ap is_simple c.in-Ok.ensures.app ∙ simple)).0 ∙ ap (λ (a : App). matches_of a (map string_bytes c.args.words.now)) c.in-Ok.ensures.app

pub returns-in-Ok-try_get_matches_from-clause-taken :
    goal.returns-in-Ok-try_get_matches_from-clause-taken
returns-in-Ok-try_get_matches_from-clause-taken c =
    ap (λ (a : App). fault_of a (map string_bytes c.args.words.now)) (sym c.in-Ok.ensures.app)
    ∙ c.in-Ok-try_get_matches_from.ensures.kinds (ap is_simple_and_free c.in-Ok.ensures.app ∙ simple_and_free)

pub returns : goal.returns
returns c = record {
  budget = tt;
  number = tt;
  rows = tt;
  taken = tt;
  refused = λ e none. elim (c.in-Err.ensures.kinds (ap is_simple_and_free c.in-Ok.ensures.app ∙ simple_and_free)) [
    | inl memory ↦ absurd (c.in_default-kind.not-OutOfMemory (c.kind.ensures ∙ memory))
    | inr among ↦ subst (λ (k : Kinds). IsAmong (kind_of c.in-Err.error) k) (ap (λ (a : App). fault_of a (map string_bytes c.args.words.now)) c.in-Ok.ensures.app ∙ none) among
  ];
}
