-- The places of kept paths, as paths come and go.
use Rattle.std.proofs.Common.{◌≡◌, ℕ, Bool, true, false, cond, List, [], ◌∷◌, ◌++◌, nat_eq, refl, ap, sym, ◌∙◌, subst, append-nil, ◌<◌, ◌+◌, ◌⊎◌, inl, inr, length, take, get_or, eq-eqb}
use Rattle.std.specs.List.{Contains, filter, IsDistinct}
use Rattle.std.proofs.lemmas.List.{map-append}
use Rattle.std.proofs.lemmas.List.Elements.{filter-append, Contains-push_cases}
use Rattle.te_pair.specs.declared.end.End.{End}
use Rattle.te_pair.specs.declared.places.Places.{Places}
use Rattle.te_pair.specs.Ends.{path_of, paths_kept, PathIsKept, is_at, paths_at}
use Rattle.te_pair.specs.Places.{numbers, without_last, Adds, Stays, Drops, IsPlaced}
use Rattle.te_pair.proofs.Among.{nothing_twice, next_taken, without_end, distinct_more, distinct_front}

at_more : (channel : ℕ) (sends : Bool) (kept : List End) (e : End)
    → paths_at channel sends (kept ++ e ∷ []) ≡ cond (is_at channel sends e)
    (paths_at channel sends kept ++ e.path ∷ []) (paths_at channel sends kept)
at_more channel sends kept e = ap paths_kept (filter-append (is_at channel sends) kept (e ∷ [])) ∙ by (is_at channel sends e)
  where
    by : (b : Bool) → paths_kept (filter (is_at channel sends) kept ++ cond b (e ∷ []) []) ≡ cond b (paths_at channel sends kept ++ e.path ∷ []) (paths_at channel sends kept)
    by true = map-append path_of (filter (is_at channel sends) kept) (e ∷ [])
    by false = ap paths_kept (append-nil (filter (is_at channel sends) kept))

pub placed_more : (kept : List End) (old new : Places) (e : End) → IsPlaced kept old → (¬ PathIsKept kept e.path) → Adds old new e → IsPlaced (kept ++ e ∷ []) new
placed_more kept old new e h free adds = record {
  each = λ channel sends. adds channel sends ∙ ap (λ ns. cond (is_at channel sends e) (ns ++ e.path ∷ []) ns) (h.each channel sends) ∙ sym (at_more channel sends kept e);
  once = subst (IsDistinct nat_eq) (sym (map-append path_of kept (e ∷ []))) (distinct_more (paths_kept kept) e.path h.once free);
}

pub placed_still : (kept : List End) (old new : Places) → IsPlaced kept old → Stays old new → IsPlaced kept new
placed_still kept old new h stays = record {
  each = λ channel sends. stays channel sends ∙ h.each channel sends;
  once = h.once;
}

gone : (b : Bool) (ns : List ℕ) (n : ℕ) → cond b (without_last (cond b (ns ++ n ∷ []) ns)) (cond b (ns ++ n ∷ []) ns) ≡ ns
gone true ns n = without_end ns n
gone false ns n = refl

pub placed_less : (kept : List End) (old new : Places) (e : End) → IsPlaced (kept ++ e ∷ []) old → Drops old new e → IsPlaced kept new
placed_less kept old new e h drops = record {
  each = λ channel sends. drops channel sends ∙ ap (λ ns. cond (is_at channel sends e) (without_last ns) ns)
      (h.each channel sends ∙ at_more channel sends kept e) ∙ gone (is_at channel sends e)
      (paths_at channel sends kept) e.path;
  once = distinct_front (paths_kept kept) (e.path ∷ []) (subst (IsDistinct nat_eq) (map-append path_of kept (e ∷ [])) h.once);
}

-- no path is kept where none is seen
pub placed_none : (places : Places) → ((channel : ℕ) (sends : Bool) → numbers places channel sends ≡ []) → IsPlaced [] places
placed_none places none = record { each = none; once = nothing_twice }

-- ---- which are kept

pub not_kept_more : (kept : List End) (i p : ℕ) (e : End) → i < length kept → e ≡ get_or kept i e
    → nat_eq e.path p ≡ false → (¬ Contains (paths_kept (take i kept)) p)
    → ¬ Contains (paths_kept (take (i + 1) kept)) p
not_kept_more kept i p e low is apart free c = by (Contains-push_cases (paths_kept (take i kept)) e.path p
    (subst (λ ns. Contains ns p) (ap paths_kept (next_taken kept i e low ∙ ap (λ d. take i kept ++ d ∷ []) (sym is))
    ∙ map-append path_of (take i kept) (e ∷ [])) c))
  where
    by : Contains (paths_kept (take i kept)) p ⊎ (e.path ≡ p) → ⊥
    by (inl more) = free more
    by (inr one) = (let both : true ≡ false = sym (eq-eqb e.path p one) ∙ apart in cc)
