-- Each step of a party keeps the rule of a relay.
use Rattle.std.proofs.Common.{◌≡◌, ◌≢◌, ◌⊎◌, ℕ, zero, suc, ◌+◌, ◌-◌, true, false, true≢false, List, [], ◌∷◌, ◌++◌, set, sym, refl, ap, ◌∙◌, subst, ⊎_elim, append_assoc, arith}
use Rattle.std.specs.List.{concat}
use Rattle.std.proofs.lemmas.List.Folds.{concat-append}
use Rattle.std.proofs.lemmas.List.{append-nil}
use Rattle.std.proofs.lemmas.List.Elements.{All-push}
use mathlib.Core.Option.{some, some-ne-none}
use lib.ListN.{get_elem?}
use Rattle.crossbeam_deque.specs.Tasks.{Pushes, Takes, Forks, Merges, Finds}
use Rattle.crossbeam_deque.proofs.Lists.{at_set, at_snoc}
use Rattle.te_steal.specs.declared.rule.Account.{Account}
use Rattle.te_steal.specs.Relays.{occurrences, IsInOrderOf}
use Rattle.te_steal.specs.Accounts.{first_owner, nobody, thief_with, with_thief, absorbing, pushing, taking, AreAllTaken}
use Rattle.te_steal.specs.Rule.{total_of, times_held, one_thief, IsParty, EachView, IsShared}
use Rattle.te_steal.proofs.OrderKept.{occurrences_append, behind_all, behind_both}
use Rattle.te_steal.proofs.TotalsChange.{each_after_set, total_after_set, total_with_last, none_in_total, total_of_one, is_false, none_is_false, nothing_weighs}

-- ---- a party whose relay changes

-- more is pushed, gone or stolen by: who doesn't own sees none of it, but what it took stays in order
party_stays : (owner : ℕ) (pushed pushed' gone gone' : List ℕ) (thieves thieves' j : ℕ) (u : Account)
    → ((took : List ℕ) → IsInOrderOf took gone → IsInOrderOf took gone')
    → (u.owns ≡ true → (pushed ≡ pushed') × (thieves ≡ thieves'))
    → IsParty owner pushed gone thieves j u → IsParty owner pushed' gone' thieves' j u
party_stays owner pushed pushed' gone gone' thieves thieves' j u more same is = record {
  owns = λ p. let own = is.owns p in let now = same p in (own.0, own.1 ∙ now.0, own.2 ∙ now.1, own.3);
  absorbs = is.absorbs;
  rests = is.rests;
  own = more u.took is.own;
  stolen = λ k d low. more _ (is.stolen k d low);
}

first_party : (port : ℕ) (v : Account) → get_elem? (first_owner ∷ []) port ≡ some v → IsParty 0 [] [] 0 port v
first_party zero v e =
    let same : first_owner ≡ v = cc e in
    subst (λ u. IsParty 0 [] [] 0 0 u) same (record {
      owns = λ _. (refl, refl, refl, refl);
      absorbs = λ _. refl;
      rests = λ _ _. refl;
      own = tt;
      stolen = λ k d low. absurd (omega (arith, low));
    })
first_party (suc port) v e = absurd (some-ne-none v (sym e))

a_thief_fits : (owner : ℕ) (pushed gone : List ℕ) (thieves j : ℕ) → IsParty owner pushed gone thieves j (thief_with [])
a_thief_fits owner pushed gone thieves j = record {
  owns = λ p. absurd (true≢false (sym p));
  absorbs = λ _. refl;
  rests = λ _ p. absurd (true≢false p);
  own = tt;
  stolen = λ k d low. absurd (omega (arith, low));
}

nobody_fits : (owner : ℕ) (pushed gone : List ℕ) (thieves j : ℕ) → IsParty owner pushed gone thieves j nobody
nobody_fits owner pushed gone thieves j = record {
  owns = λ p. absurd (true≢false (sym p));
  absorbs = λ _. refl;
  rests = λ _ _. refl;
  own = tt;
  stolen = λ k d low. absurd (omega (arith, low));
}

-- ---- the steps

pub begins : IsShared [] (first_owner ∷ [])
begins = record { owner = 0; pushed = []; gone = []; parts = refl; counts = λ n. refl; parties = first_party }

pub pushes : (port : ℕ) (v : Account) (ns : List ℕ) → v.owns ≡ true → Pushes IsShared port v ns (λ w. w ≡ pushing v ns)
pushes port v ns owns items views h at =
    let w : Account = pushing v ns in
    let mine = h.parties port v at in
    let own = mine.owns owns in
    let thieves : total_of one_thief (set views port w) ≡ total_of one_thief views =
    (let t = total_after_set one_thief views port v w at in omega (arith, t)) in (
      w,
      record {
        owner = h.owner;
        pushed = h.pushed ++ ns;
        gone = h.gone;
        parts = ap (λ l. l ++ ns) h.parts ∙ append_assoc h.gone items ns;
        counts = λ n. let t = total_after_set (times_held n) views port v w at in let c = h.counts n in omega (arith, t, c);
        parties = each_after_set (IsParty h.owner (h.pushed ++ ns) h.gone (total_of one_thief (set views port w))) views port w
            (record {
              owns = λ _. (own.0, ap (λ l. l ++ ns) own.1, own.2 ∙ sym thieves, own.3);
              absorbs = mine.absorbs;
              rests = mine.rests;
              own = mine.own;
              stolen = mine.stolen;
            })
            (λ j u apart e. let is = h.parties j u e in
            party_stays h.owner h.pushed (h.pushed ++ ns) h.gone h.gone (total_of one_thief views)
            (total_of one_thief (set views port w)) j u (λ took q. q) (λ p. absurd (apart ((is.owns p).0 ∙ sym own.0))) is);
      },
      refl,
    )

pub takes : (port : ℕ) (v : Account) → (v.owns ≡ true) ⊎ (v.steals ≡ true)
    → Takes IsShared port v 1 (λ ns w. (w ≡ taking v ns) × (v.owns ≡ true → IsInOrderOf w.took w.pushed))
takes port v may ns items views _ _ h at =
    let w : Account = taking v ns in
    let gone : List ℕ = h.gone ++ ns in
    let mine = h.parties port v at in
    let parts : h.pushed ≡ gone ++ items = h.parts ∙ sym (append_assoc h.gone ns items) in
    let order : IsInOrderOf (v.took ++ ns) gone = behind_both v.took h.gone ns mine.own in
    let thieves : total_of one_thief (set views port w) ≡ total_of one_thief views =
    (let t = total_after_set one_thief views port v w at in omega (arith, t)) in (
      w,
      record {
        owner = h.owner;
        pushed = h.pushed;
        gone = gone;
        parts = parts;
        counts = λ n.
            let t = total_after_set (times_held n) views port v w at in
            let c = h.counts n in
            let a = occurrences_append n h.gone ns in
            let b = occurrences_append n v.took ns in
            omega (arith, t, c, a, b);
        parties = each_after_set (IsParty h.owner h.pushed gone (total_of one_thief (set views port w))) views port w
            (record {
              owns = λ p. let own = mine.owns p in (own.0, own.1, own.2 ∙ sym thieves, own.3);
              absorbs = mine.absorbs;
              rests = λ p q. ⊎_elim (λ (a : v.owns ≡ true). absurd (true≢false (sym a ∙ p)))
                  (λ (a : v.steals ≡ true). absurd (true≢false (sym a ∙ q))) may;
              own = order;
              stolen = λ k d low. behind_all _ h.gone ns (mine.stolen k d low);
            })
            (λ j u apart e. party_stays h.owner h.pushed h.pushed h.gone gone (total_of one_thief views)
            (total_of one_thief (set views port w)) j u (λ took q. behind_all took h.gone ns q) (λ p. (refl, sym thieves))
            (h.parties j u e));
      },
      (refl, λ p. subst (λ l. IsInOrderOf (v.took ++ ns) l) (sym ((mine.owns p).1 ∙ parts)) (behind_all (v.took ++ ns) gone items order)),
    )

pub forks : (port : ℕ) (v : Account) → v.owns ≡ true → Forks IsShared port v (with_thief v) (thief_with [])
forks port v owns items views h at =
    let w : Account = with_thief v in
    let new : Account = thief_with [] in
    let others : List Account = set views port w in
    let mine = h.parties port v at in
    let own = mine.owns owns in
    let count : ℕ = total_of one_thief (others ++ new ∷ []) in
    let more : count ≡ total_of one_thief views + 1 =
    (let t = total_after_set one_thief views port v w at in let s = total_with_last one_thief others new in omega (arith, t, s)) in
    let before : EachView (IsParty h.owner h.pushed h.gone count) others =
    each_after_set (IsParty h.owner h.pushed h.gone count) views port w
    (record {
      owns = λ _. (own.0, own.1, ap (λ k. k + 1) own.2 ∙ sym more, own.3);
      absorbs = mine.absorbs;
      rests = mine.rests;
      own = mine.own;
      stolen = mine.stolen;
    })
    (λ j u apart e. let is = h.parties j u e in
    party_stays h.owner h.pushed h.pushed h.gone h.gone (total_of one_thief views) count j u (λ took q. q)
    (λ p. absurd (apart ((is.owns p).0 ∙ sym own.0))) is) in record {
      owner = h.owner;
      pushed = h.pushed;
      gone = h.gone;
      parts = h.parts;
      counts = λ n.
          let t = total_after_set (times_held n) views port v w at in
          let s = total_with_last (times_held n) others new in
          let c = h.counts n in
          omega (arith, t, s, c);
      parties = λ j u e. ⊎_elim (before j u)
          (λ (is : new ≡ u). subst (λ y. IsParty h.owner h.pushed h.gone count j y) is (a_thief_fits h.owner h.pushed h.gone count j))
          (at_snoc others new u j e);
    }

pub finds : (port : ℕ) (v : Account) → Finds IsShared port v (v.owns ≡ true → v.thieves ≡ 0 → AreAllTaken v)
finds port v views h at owns none =
    let mine = h.parties port v at in
    let own = mine.owns owns in
    let alone : total_of one_thief views ≡ 0 = sym own.2 ∙ none in
    let all : h.gone ≡ v.pushed = sym (own.1 ∙ (h.parts ∙ append-nil h.gone)) in
    let idle : (n : ℕ) (j : ℕ) (u : Account) → j ≢ port → get_elem? views j ≡ some u → times_held n u ≡ 0 = λ n j u apart e.
    let is = h.parties j u e in
    let other : u.owns ≡ false = is_false u.owns (λ p. apart ((is.owns p).0 ∙ sym own.0)) in
    let still : u.steals ≡ false = none_is_false u.steals (none_in_total one_thief views j u alone e) in
    nothing_weighs n u (is.rests other still) (is.absorbs other) in record {
      counts = λ n. ap (occurrences n) (sym all) ∙ (h.counts n ∙ total_of_one (times_held n) views port v at (idle n));
      own = subst (λ l. IsInOrderOf v.took l) all mine.own;
      stolen = λ k d low. subst (λ l. IsInOrderOf _ l) all (mine.stolen k d low);
    }

pub merges : (port : ℕ) (v : Account) (other : ℕ) (u : Account) → v.owns ≡ true → u ≡ thief_with u.took
    → Merges IsShared port v other u (absorbing v u) nobody
merges port v other u owns is items views h at apart at' =
    let w : Account = absorbing v u in
    let others : List Account = set views port w in
    let end : List Account = set others other nobody in
    let mine = h.parties port v at in
    let own = mine.owns owns in
    let was : get_elem? views other ≡ some u =
    ⊎_elim (λ (x : (other ≡ port) × (w ≡ u)). absurd (apart x.0)) (λ (x : (other ≢ port) × (get_elem? views other ≡ some u)). x.1)
    (at_set views port other w u at') in
    let theirs = h.parties other u was in
    let count : ℕ = total_of one_thief end in
    let one : one_thief u ≡ 1 = ap one_thief is in
    let fewer : count + 1 ≡ total_of one_thief views =
    (let t = total_after_set one_thief views port v w at in
    let s = total_after_set one_thief others other u nobody at' in
    omega (arith, t, s, one)) in
    let less : v.thieves - 1 ≡ count = (let o = own.2 in omega (arith, o, fewer)) in
    let weighs : (n : ℕ) → times_held n u ≡ occurrences n u.took = λ n.
    (let e = ap (λ (y : Account). occurrences n (concat y.absorbed)) is in omega (arith, e)) in
    let absorbs : (n : ℕ) → occurrences n (concat (v.absorbed ++ u.took ∷ [])) ≡ occurrences n (concat v.absorbed) + occurrences n u.took = λ n.
    ap (occurrences n) (concat-append v.absorbed (u.took ∷ []) ∙ ap (λ l. concat v.absorbed ++ l) (append-nil u.took))
    ∙ occurrences_append n (concat v.absorbed) u.took in
    let Stays : ℕ → Account → Type 0 = λ j y. j ≢ other → IsParty h.owner h.pushed h.gone count j y in
    let stay : EachView Stays others = each_after_set Stays views port w
    (λ _. record {
      owns = λ _. (own.0, own.1, less, own.3);
      absorbs = λ p. absurd (true≢false (sym owns ∙ p));
      rests = λ p _. absurd (true≢false (sym owns ∙ p));
      own = mine.own;
      stolen = All-push (λ took. IsInOrderOf took h.gone) v.absorbed u.took mine.stolen theirs.own;
    })
    (λ j y off e _. let party = h.parties j y e in
    party_stays h.owner h.pushed h.pushed h.gone h.gone (total_of one_thief views) count j y (λ took q. q)
    (λ p. absurd (off ((party.owns p).0 ∙ sym own.0))) party) in record {
      owner = h.owner;
      pushed = h.pushed;
      gone = h.gone;
      parts = h.parts;
      counts = λ n.
          let t = total_after_set (times_held n) views port v w at in
          let s = total_after_set (times_held n) others other u nobody at' in
          let a = weighs n in
          let b = absorbs n in
          let c = h.counts n in
          omega (arith, t, s, a, b, c);
      parties = each_after_set (IsParty h.owner h.pushed h.gone count) others other nobody
          (nobody_fits h.owner h.pushed h.gone count other) (λ j y off e. stay j y e off);
    }
