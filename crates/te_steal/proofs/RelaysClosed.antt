-- What is known of a relay once its thieves are absorbed and the deque is found empty.
use Rattle.std.proofs.Common.{◌≡◌, ◌<◌, ℕ, ◌+◌, List, [], ◌++◌, map, All, sym, ap, subst, arith}
use Rattle.std.specs.List.{concat}
use Rattle.std.proofs.lemmas.List.{get_or-map, length-map}
use Rattle.te_steal.specs.declared.rule.Account.{Account}
use Rattle.te_steal.specs.Relays.{occurrences, IsInOrderOf, ThiefOf, took_by}
use Rattle.te_steal.specs.Accounts.{taking, absorbing_all, AreAllTaken}
use Rattle.te_steal.proofs.OrderKept.{occurrences_append, first_in_order, second_in_order}

module _ (v : Account) (thieves : List ThiefOf) (left : List ℕ) (none : v.absorbed ≡ []) (all : AreAllTaken (taking (absorbing_all v (map took_by thieves)) left)) where
  only : v.absorbed ++ map took_by thieves ≡ map took_by thieves
  only = ap (λ l. l ++ map took_by thieves) none

  pub counted : (n : ℕ) → occurrences n v.pushed ≡ occurrences n v.took + occurrences n (concat (map took_by thieves)) + occurrences n left
  counted n =
      let whole = all.counts n in
      let parts = occurrences_append n v.took left in
      let stolen = ap (λ l. occurrences n (concat l)) only in
      omega (arith, whole, parts, stolen)

  pub left_in_order : IsInOrderOf left v.pushed
  left_in_order = second_in_order v.took left v.pushed all.own

  pub own_in_order : IsInOrderOf v.took v.pushed
  own_in_order = first_in_order v.took left v.pushed all.own

  pub thieves_in_order : All (λ t. IsInOrderOf (took_by t) v.pushed) thieves
  thieves_in_order k d low =
      let each : All (λ took. IsInOrderOf took v.pushed) (map took_by thieves) =
      subst (λ l. All (λ took. IsInOrderOf took v.pushed) l) only all.stolen in
      subst (λ l. IsInOrderOf l v.pushed) (get_or-map took_by thieves k d (took_by d) low)
      (each k (took_by d) (subst (λ n. k < n) (sym (length-map thieves took_by)) low))
