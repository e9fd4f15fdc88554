-- A reserved word is found by its spelling, and by no other.
use Rattle.std.proofs.Common.{◌≡◌, ◌≢◌, ℕ, Bool, true, false, List, [], ◌∷◌, length, refl, sym, ◌∙◌, ap}
use Rattle.std.specs.Prelude.{Some, if◌then◌else◌}
use Rattle.std.specs.List.{AllByRecursion}
use Rattle.std.specs.Str.{bytes_eq}
use Rattle.std.proofs.lemmas.Slice.Eq.{bytes_eq-Decides}
use Rattle.te_script.specs.Names.{reserved_words}
use Rattle.te_reader.specs.declared.token.Word.{Word}
use Rattle.te_reader.specs.declared.token.Word.TheVariants as words
use Rattle.te_reader.specs.Tokens.{word_spelling}
use Rattle.te_reader.specs.Lexed.{words_so_long, word_among, reserved_as}

among_spells : (ws : List Word) (bytes : List ℕ) (w : Word) → word_among ws bytes ≡ Some w → word_spelling w ≡ bytes
among_spells [] bytes w e = absurd cc
among_spells (v ∷ ws) bytes w e = by (bytes_eq bytes (word_spelling v)) (bytes_eq-Decides bytes (word_spelling v)).0 (among_spells ws bytes w) e where
  by : (b : Bool) → (b ≡ true → bytes ≡ word_spelling v) → (word_among ws bytes ≡ Some w → word_spelling w ≡ bytes) → (if b then Some v else word_among ws bytes) ≡ Some w → word_spelling w ≡ bytes
  by true h later e = let same : v ≡ w = cc in ap word_spelling (sym same) ∙ sym (h refl)
  by false h later e = later e

pub reserved_spells : (bytes : List ℕ) (w : Word) → reserved_as bytes ≡ Some w → word_spelling w ≡ bytes
unfolding reserved_as
reserved_spells bytes w e = among_spells (words_so_long (length bytes)) bytes w e

pub reserved_back : (w : Word) → reserved_as (word_spelling w) ≡ Some w
unfolding reserved_as
reserved_back words.Channels = refl
reserved_back words.Thread = refl
reserved_back words.Sync = refl
reserved_back words.Emit = refl
reserved_back words.Always = refl
reserved_back words.Never = refl
reserved_back words.Throw = refl
reserved_back words.Send = refl
reserved_back words.Recv = refl
reserved_back words.Do = refl
reserved_back words.Choose = refl
reserved_back words.Try = refl
reserved_back words.Catch = refl
reserved_back words.If = refl
reserved_back words.Else = refl
reserved_back words.Fresh = refl
reserved_back words.Repeat = refl

-- ---- the words of the language are its reserved words

pub differs_from_reserved : (n : List ℕ) → ((w : Word) → word_spelling w ≢ n) → AllByRecursion (λ x. x ≢ n) reserved_words
differs_from_reserved n h = (
  h words.Channels,
  (
    h words.Thread,
    (
      h words.Sync,
      (
        h words.Emit,
        (
          h words.Always,
          (
            h words.Never,
            (
              h words.Throw,
              (
                h words.Send,
                (
                  h words.Recv,
                  (
                    h words.Do,
                    (
                      h words.Choose,
                      (
                        h words.Try,
                        (
                          h words.Catch,
                          (
                            h words.If,
                            (h words.Else, (h words.Fresh, (h words.Repeat, tt))),
                          ),
                        ),
                      ),
                    ),
                  ),
                ),
              ),
            ),
          ),
        ),
      ),
    ),
  ),
)

pub differs_from_words : (n : List ℕ) → AllByRecursion (λ x. x ≢ n) reserved_words → (w : Word) → word_spelling w ≢ n
differs_from_words n h words.Channels = h.0
differs_from_words n h words.Thread = h.1.0
differs_from_words n h words.Sync = h.1.1.0
differs_from_words n h words.Emit = h.1.1.1.0
differs_from_words n h words.Always = h.1.1.1.1.0
differs_from_words n h words.Never = h.1.1.1.1.1.0
differs_from_words n h words.Throw = h.1.1.1.1.1.1.0
differs_from_words n h words.Send = h.1.1.1.1.1.1.1.0
differs_from_words n h words.Recv = h.1.1.1.1.1.1.1.1.0
differs_from_words n h words.Do = h.1.1.1.1.1.1.1.1.1.0
differs_from_words n h words.Choose = h.1.1.1.1.1.1.1.1.1.1.0
differs_from_words n h words.Try = h.1.1.1.1.1.1.1.1.1.1.1.0
differs_from_words n h words.Catch = h.1.1.1.1.1.1.1.1.1.1.1.1.0
differs_from_words n h words.If = h.1.1.1.1.1.1.1.1.1.1.1.1.1.0
differs_from_words n h words.Else = h.1.1.1.1.1.1.1.1.1.1.1.1.1.1.0
differs_from_words n h words.Fresh = h.1.1.1.1.1.1.1.1.1.1.1.1.1.1.1.0
differs_from_words n h words.Repeat = h.1.1.1.1.1.1.1.1.1.1.1.1.1.1.1.1.0
