-- Chains of a group's joint steps follow one another, and so do their labels.
use Rattle.std.proofs.Common.{◌≡◌, ℕ, List, [], ◌∷◌, ◌++◌, Option, Some, None, refl, ap, ◌∙◌}
use Rattle.std.specs.Option.{option_and_then}
use Rattle.te_terms.specs.Steps.{Member}
use Rattle.te_terms.specs.Joint.{Label, Action, quiet, labelled, joint_step, after, labels}

-- joint steps with these labels lead from one group to the other
pub record Leads (g : List Member) (word : List Label) (h : List Member) : Type 0 where
  pub actions : List Action
  pub labels_are : labels actions ≡ word
  pub reaches : after actions g ≡ Some h

after_step : (xs ys : List Action) (o : Option (List Member)) → ((h : List Member) → after (xs ++ ys) h ≡ option_and_then (after ys) (after xs h)) →
    option_and_then (after (xs ++ ys)) o ≡ option_and_then (after ys) (option_and_then (after xs) o)
after_step xs ys None same = refl
after_step xs ys (Some h) same = same h

after_both : (xs ys : List Action) (g : List Member) → after (xs ++ ys) g ≡ option_and_then (after ys) (after xs g)
after_both [] ys g = refl
after_both (x ∷ xs) ys g = after_step xs ys (joint_step x g) (after_both xs ys)

labels_both : (xs ys : List Action) → labels (xs ++ ys) ≡ labels xs ++ labels ys
labels_both [] ys = refl
labels_both (quiet t ∷ xs) ys = labels_both xs ys
labels_both (labelled l ∷ xs) ys = ap (λ w. l ∷ w) (labels_both xs ys)

pub leads_nowhere : (g : List Member) → Leads g [] g
leads_nowhere g = record { actions = []; labels_are = refl; reaches = refl }

pub leads_by : (l : Label) (g h : List Member) → joint_step (labelled l) g ≡ Some h → Leads g (l ∷ []) h
leads_by l g h e = record { actions = labelled l ∷ []; labels_are = refl; reaches = ap (option_and_then (after [])) e }

pub leads_quietly : (t : ℕ) (g h : List Member) → joint_step (quiet t) g ≡ Some h → Leads g [] h
leads_quietly t g h e = record { actions = quiet t ∷ []; labels_are = refl; reaches = ap (option_and_then (after [])) e }

-- one chain after the other
pub leads_on : (g h k : List Member) (w v : List Label) → Leads g w h → Leads h v k → Leads g (w ++ v) k
leads_on g h k w v first more = record {
  actions = first.actions ++ more.actions;
  labels_are = labels_both first.actions more.actions ∙ rw (first.labels_are, more.labels_are) refl;
  reaches = after_both first.actions more.actions g ∙ ap (option_and_then (after more.actions)) first.reaches ∙ more.reaches;
}
