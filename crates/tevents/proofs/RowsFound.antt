-- What the getters read stands in the rows of a parse.
use Rattle.std.proofs.Common.{◌≡◌, ◌∙◌, Bool, true, false, List, [], ◌∷◌, Option, Some, None, refl, cond, ap, sym}
use Rattle.std.specs.Prelude.{slice_get, option_map, option_and_then, map, find}
use Rattle.std.specs.Borrow.{Bor}
use Rattle.std.specs.Str.{bytes_eq}
use Rattle.clap.specs.Words.{Text, Row, first_of, first_value, one_text, rows_of, read_as}
use Rattle.clap.specs.Walk.{one_of, row_of, row_text}
use Rattle.clap.specs.Facts.{Entry}
use Rattle.clap.specs.declared.parser.matches.Found.{Found}

found_row : (id : Text) (xs : List Entry) → find (λ r. bytes_eq r.id id) (map row_of xs) ≡ option_map row_of (find (λ e. bytes_eq e.0.now id) xs)
found_row id [] = refl
found_row id (x ∷ xs) = go (found_row id xs) (bytes_eq x.0.now id)
  where
    go : find (λ r. bytes_eq r.id id) (map row_of xs) ≡ option_map row_of (find (λ e. bytes_eq e.0.now id) xs)
        → (o : Bool) → cond o (Some (row_of x)) (find (λ r. bytes_eq r.id id) (map row_of xs)) ≡ option_map row_of (cond o (Some x) (find (λ e. bytes_eq e.0.now id) xs))
    go later true = refl
    go later false = later

first_in : (o : Option Entry) → option_and_then (λ a. option_map (λ s. s.now) (slice_get a.vals.items 0)) (option_map (λ e. e.1) o) ≡ option_and_then (λ r. slice_get r.values 0) (option_map row_of o)
first_in None = refl
first_in (Some e) = go e.1.vals.items
  where
    go : (vs : List (Bor Text)) → option_map (λ s. s.now) (slice_get vs 0) ≡ slice_get (map (λ s. s.now) vs) 0
    go [] = refl
    go (v ∷ vs) = refl

pub first_is : (f : Found) (id : Text) → first_value f id ≡ first_of id (rows_of f)
first_is f id = first_in (find (λ e. bytes_eq e.0.now id) f.entries.items) ∙ sym (ap (option_and_then (λ (r : Row). slice_get r.values 0)) (found_row id f.entries.items))

one_in : (o : Option Entry) → option_and_then (λ a. option_map (λ s. read_as a.reading s.now) (slice_get a.vals.items 0)) (option_map (λ e. e.1) o) ≡ option_and_then row_text (option_map row_of o)
one_in None = refl
one_in (Some e) = go e.1.vals.items
  where
    go : (vs : List (Bor Text)) → option_map (λ s. read_as e.1.reading s.now) (slice_get vs 0) ≡ option_map (read_as e.1.reading) (slice_get (map (λ s. s.now) vs) 0)
    go [] = refl
    go (v ∷ vs) = refl

pub one_is : (f : Found) (id : Text) → one_text f id ≡ one_of id (rows_of f)
one_is f id = one_in (find (λ e. bytes_eq e.0.now id) f.entries.items) ∙ sym (ap (option_and_then row_text) (found_row id f.entries.items))
