-- What was there stays where it stood.
use Rattle.std.proofs.Common.{◌≡◌, List, [], ◌∷◌, ◌++◌, Option, ap, sym, ◌∙◌, subst, refl, append_assoc, append-nil}
use Rattle.te_trail.specs.declared.moves.Move.{Move}
use Rattle.te_trail.specs.Paths.{Path}
use Rattle.te_pair.specs.declared.end.End.{End}
use Rattle.te_search.specs.declared.work.Work.{Work}
use Rattle.te_search.specs.declared.finals.Final.{Final}
use Rattle.te_search.specs.Works.{WorkKeeps}

-- nothing is new
pub keeps_same : (old new : Work) → new.store ≡ old.store → new.moves.items ≡ old.moves.items → new.waiting ≡ old.waiting → new.finals ≡ old.finals → WorkKeeps old new
keeps_same old new st mo wa fi = record {
  events = ap (λ t. t.events) st;
  marks = ap (λ t. t.marks) st;
  more_paths = [];
  paths = ap (λ t. t.paths) st ∙ sym (append-nil old.store.paths);
  more_moves = [];
  moves = mo ∙ sym (append-nil old.moves.items);
  more_waiting = [];
  waiting = wa ∙ sym (append-nil old.waiting);
  more_finals = [];
  finals = fi ∙ sym (append-nil old.finals);
}

pub keeps_self : (old new : Work) → new ≡ old → WorkKeeps old new
keeps_self old new same = subst (WorkKeeps old) (sym same) (keeps_same old old refl refl refl refl)

both_more : {A : Type 0} (a b c xs ys : List A) → b ≡ a ++ xs → c ≡ b ++ ys → c ≡ a ++ (xs ++ ys)
both_more a b c xs ys e f = f ∙ ap (λ l. l ++ ys) e ∙ append_assoc a xs ys

pub keeps_both : (a b c : Work) → WorkKeeps a b → WorkKeeps b c → WorkKeeps a c
keeps_both a b c k l = record {
  events = l.events ∙ k.events;
  marks = l.marks ∙ k.marks;
  more_paths = k.more_paths ++ l.more_paths;
  paths = both_more a.store.paths b.store.paths c.store.paths k.more_paths l.more_paths k.paths l.paths;
  more_moves = k.more_moves ++ l.more_moves;
  moves = both_more a.moves.items b.moves.items c.moves.items k.more_moves l.more_moves k.moves l.moves;
  more_waiting = k.more_waiting ++ l.more_waiting;
  waiting = both_more a.waiting b.waiting c.waiting k.more_waiting l.more_waiting k.waiting l.waiting;
  more_finals = k.more_finals ++ l.more_finals;
  finals = both_more a.finals b.finals c.finals k.more_finals l.more_finals k.finals l.finals;
}

-- new paths and their moves alone
pub keeps_paths : (old new : Work) (xs : List Path) (ms : List (Option Move)) → new.store.events ≡ old.store.events → new.store.marks ≡ old.store.marks
    → new.store.paths ≡ old.store.paths ++ xs → new.moves.items ≡ old.moves.items ++ ms
    → new.waiting ≡ old.waiting → new.finals ≡ old.finals → WorkKeeps old new
keeps_paths old new xs ms ev mk ps mo wa fi = record {
  events = ev;
  marks = mk;
  more_paths = xs;
  paths = ps;
  more_moves = ms;
  moves = mo;
  more_waiting = [];
  waiting = wa ∙ sym (append-nil old.waiting);
  more_finals = [];
  finals = fi ∙ sym (append-nil old.finals);
}

-- one more final path, or waiting end
pub keeps_final : (old new : Work) (f : Final) → new.store ≡ old.store → new.moves.items ≡ old.moves.items → new.waiting ≡ old.waiting
    → new.finals ≡ old.finals ++ (f ∷ []) → WorkKeeps old new
keeps_final old new f st mo wa fi = record {
  events = ap (λ t. t.events) st;
  marks = ap (λ t. t.marks) st;
  more_paths = [];
  paths = ap (λ t. t.paths) st ∙ sym (append-nil old.store.paths);
  more_moves = [];
  moves = mo ∙ sym (append-nil old.moves.items);
  more_waiting = [];
  waiting = wa ∙ sym (append-nil old.waiting);
  more_finals = f ∷ [];
  finals = fi;
}

pub keeps_end : (old new : Work) (e : End) → new.store ≡ old.store → new.moves.items ≡ old.moves.items → new.waiting ≡ old.waiting ++ (e ∷ [])
    → new.finals ≡ old.finals → WorkKeeps old new
keeps_end old new e st mo wa fi = record {
  events = ap (λ t. t.events) st;
  marks = ap (λ t. t.marks) st;
  more_paths = [];
  paths = ap (λ t. t.paths) st ∙ sym (append-nil old.store.paths);
  more_moves = [];
  moves = mo ∙ sym (append-nil old.moves.items);
  more_waiting = e ∷ [];
  waiting = wa;
  more_finals = [];
  finals = fi ∙ sym (append-nil old.finals);
}
