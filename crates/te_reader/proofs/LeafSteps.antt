-- What an event without parts comes to, by its word.
use Rattle.std.proofs.Common.{◌≡◌, ℕ, List, refl}
use Rattle.std.specs.Prelude.{Some, None}
use Rattle.te_terms.specs.Expressions.{Expression, Primitive}
use Rattle.te_terms.specs.Terms.{always, never, fresh, throw, send, recv}
use Rattle.te_reader.specs.declared.token.Word.TheVariants as words
use Rattle.te_reader.specs.Tokens.{Token}
use Rattle.te_reader.specs.Heads.{word_first}
use Rattle.te_reader.specs.Grammar.{Names}
use Rattle.te_reader.specs.ExpressionReads.{read_primitive, read_expression}
use Rattle.te_reader.specs.EventReads.{read_leaf}

module _ (s : Names) (ts : List Token) where
  pub always_read : (b rest : List Token) (e : Expression) → word_first words.Always ts ≡ Some b → read_expression s b ≡ Some (e, rest)
      → read_leaf s ts ≡ Some (always e, rest)
  unfolding read_leaf
  always_read b rest e f g = rw (f, g) refl

  module _ (no_always : word_first words.Always ts ≡ None) where
    pub send_read : (b c rest : List Token) (p : Primitive) (e : Expression) → word_first words.Send ts ≡ Some b → read_primitive s b ≡ Some (p, c)
        → read_expression s c ≡ Some (e, rest)
        → read_leaf s ts ≡ Some (send p e, rest)
    unfolding read_leaf
    send_read b c rest p e f g h = rw (no_always, f, g, h) refl

    module _ (no_send : word_first words.Send ts ≡ None) where
      pub never_read : (rest : List Token) → word_first words.Never ts ≡ Some rest → read_leaf s ts ≡ Some (never, rest)
      unfolding read_leaf
      never_read rest f = rw (no_always, no_send, f) refl

      module _ (no_never : word_first words.Never ts ≡ None) where
        pub throw_read : (b rest : List Token) (e : Expression) → word_first words.Throw ts ≡ Some b → read_expression s b ≡ Some (e, rest)
            → read_leaf s ts ≡ Some (throw e, rest)
        unfolding read_leaf
        throw_read b rest e f g = rw (no_always, no_send, no_never, f, g) refl

        module _ (no_throw : word_first words.Throw ts ≡ None) where
          pub fresh_read : (rest : List Token) → word_first words.Fresh ts ≡ Some rest → read_leaf s ts ≡ Some (fresh, rest)
          unfolding read_leaf
          fresh_read rest f = rw (no_always, no_send, no_never, no_throw, f) refl

          pub recv_read : (b rest : List Token) (p : Primitive) → word_first words.Fresh ts ≡ None → word_first words.Recv ts ≡ Some b
              → read_primitive s b ≡ Some (p, rest) → read_leaf s ts ≡ Some (recv p, rest)
          unfolding read_leaf
          recv_read b rest p no_fresh f g = rw (no_always, no_send, no_never, no_throw, no_fresh, f, g) refl
