-- Faults of worked texts.
use Rattle.std.proofs.Common.{◌≡◌, [], ◌∷◌, ◌++◌, refl}
use Rattle.std.specs.Prelude.{Some, None, codes}
use Rattle.te_reader.specs.declared.cause.Which.TheVariants as limits
use Rattle.te_reader.specs.declared.cause.Cause.TheVariants as causes
use Rattle.te_reader.specs.Rules.{is_among}
use Rattle.te_reader.specs.Spots.{spots_behind}
use Rattle.te_reader.specs.Lexed.{reserved_as}
use Rattle.te_reader.specs.Runs.{run, pick, pick_plain, fault_of, found}

strange_byte : fault_of (codes "channels c" ++ 1 ∷ 59 ∷ []) ≡ Some (found causes.Bytes 2)
unfolding fault_of run pick pick_plain is_among spots_behind reserved_as
strange_byte = refl

no_token : fault_of (codes "channels $;") ≡ Some (found causes.Token 2)
unfolding fault_of run pick pick_plain is_among spots_behind reserved_as
no_token = refl

cut_short : fault_of (codes "thread a { x <") ≡ Some (found causes.Syntax 1)
unfolding fault_of run pick pick_plain is_among spots_behind reserved_as
cut_short = refl

too_large : fault_of (codes "thread a { x <- sync always (9223372036854775808); }") ≡ Some (found causes.Integer 23)
unfolding fault_of run pick pick_plain is_among spots_behind reserved_as
too_large = refl

unbound : fault_of (codes "thread a { emit x; }") ≡ Some (found causes.Unbound 4)
unfolding fault_of run pick pick_plain is_among spots_behind reserved_as
unbound = refl

twice : fault_of (codes "channels c c;") ≡ Some (found causes.Twice 2)
unfolding fault_of run pick pick_plain is_among spots_behind reserved_as
twice = refl

shadow : fault_of (codes "channels c; thread a { c <- sync never; }") ≡ Some (found causes.Shadow 18)
unfolding fault_of run pick pick_plain is_among spots_behind reserved_as
shadow = refl

no_thread : fault_of (codes "channels c;") ≡ Some (found causes.NoThread 0)
unfolding fault_of run pick pick_plain is_among spots_behind reserved_as
no_thread = refl

fifth_atom : fault_of (codes "thread a { emit (1, 2, 3, 4, 5); }") ≡ Some (found (causes.Limit limits.Atoms) 5)
unfolding fault_of run pick pick_plain is_among spots_behind reserved_as
fifth_atom = refl

no_fault : fault_of (codes "channels c; thread a { x <- sync do { y <- recv c; throw (y.0 + 1, c) }; emit x; }") ≡ None
unfolding fault_of run pick pick_plain is_among spots_behind reserved_as
no_fault = refl
