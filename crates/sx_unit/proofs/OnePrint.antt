-- A printed text has one reading, or one reason why it cannot be written, but for the readings that
-- it may show.
use Rattle.std.proofs.Common.{◌≡◌, ℕ, ◌<◌, ◌≤◌, ◌⊎◌, inl, inr, refl, sym, ap, ◌∙◌, arith}
use Rattle.sx_term.specs.declared.sort.Sort.{Sort}
use Rattle.sx_term.specs.Tree.{Tree}
use Rattle.sx_words.specs.declared.print_defect.PrintDefect.{PrintDefect}
use Rattle.sx_words.specs.declared.print_defect.PrintDefect.TheVariants.{Bytes, Tokens, Items}
use Rattle.sx_words.specs.declared.print_defect.PrintDefect.TheVariants.{Depth, Ambiguous}
use Rattle.sx_grammar.specs.Grammar.{Text}
use Rattle.sx_grammar.specs.Parts.{Parts}
use Rattle.sx_grammar.specs.ReadOne.{only, too_hard, too_deep, ambiguous}
use Rattle.sx_notation.specs.declared.unread.Unread.TheVariants as unread
use Rattle.sx_notation.specs.OneReason.{ShowTwo}
use Rattle.sx_typing.specs.Alike.{HasThree}
use Rattle.sx_typing.specs.Body.{ReadsOnly}
use Rattle.sx_unit.specs.Unprinted.{IsUnprintable}
use Rattle.sx_typing.proofs.OneAnswer.{answer_one, unread_one}

-- both show two readings
pub record ShowPairs (a b : PrintDefect) : Type 0 where
  pub one : Text
  pub other : Text
  pub some : Text
  pub more : Text
  pub first : a ≡ Ambiguous one other
  pub second : b ≡ Ambiguous some more

long_short : (n m : ℕ) → m < n → n ≤ m → ⊥
long_short n m less most = omega arith

module _ (p : Parts) (sort : Sort) (size : ℕ) (shown : Text) (t : Tree) where
  abbrev IsOne : PrintDefect → PrintDefect → Type 0
  IsOne a b = (a ≡ b) ⊎ (ShowPairs a b × HasThree p sort shown)

  as_printed : (one other some more : Text) →
      (unread.Ambiguous one other ≡ unread.Ambiguous some more) ⊎
      (ShowTwo (unread.Ambiguous one other) (unread.Ambiguous some more) × HasThree p sort shown) →
      IsOne (Ambiguous one other) (Ambiguous some more)
  as_printed one other some more (inl same) =
      let first : one ≡ some = cc in
      let second : other ≡ more = cc in
      inl (λ i. Ambiguous (first i) (second i))
  as_printed one other some more (inr h) =
      inr (
        record {
          one = one;
          other = other;
          some = some;
          more = more;
          first = refl;
          second =
              refl;
        },
        h.1,
      )

  pub defect_one : (a b : PrintDefect) → IsUnprintable p sort size shown t a →
      IsUnprintable p sort size shown t b → IsOne a b
  defect_one (Bytes n) (Bytes m) h k = inl (ap Bytes (h.1 ∙ sym k.1))
  defect_one (Bytes n) (Tokens m) h k = absurd (long_short size 262144 h.0 k.0)
  defect_one (Bytes n) Items h k = absurd (long_short size 262144 h.0 k.0)
  defect_one (Bytes n) (Depth m) h k = absurd (long_short size 262144 h.0 k.0)
  defect_one (Bytes n) (Ambiguous some more) h k = absurd (long_short size 262144 h.0 k.0)
  defect_one (Tokens n) (Bytes m) h k = absurd (long_short size 262144 k.0 h.0)
  defect_one (Tokens n) (Tokens m) h k = inl (ap Tokens (h.2 ∙ sym k.2))
  defect_one (Tokens n) Items h k = absurd (h.3 k.1.0 k.1.1)
  defect_one (Tokens n) (Depth m) h k = absurd (h.3 k.1.0 k.1.1)
  defect_one (Tokens n) (Ambiguous some more) h k = absurd (h.3 k.1.0 k.1.1)
  defect_one Items (Bytes m) h k = absurd (long_short size 262144 k.0 h.0)
  defect_one Items (Tokens m) h k = absurd (k.3 h.1.0 h.1.1)
  defect_one Items Items h k = inl refl
  defect_one Items (Depth m) h k = let e : too_hard ≡ too_deep m = answer_one p sort shown h.1.0
      k.1.0 too_hard (too_deep m) h.1.1 k.1.1 h.1.2 k.1.2 in absurd (cc)
  defect_one Items (Ambiguous some more) h k =
      let two = k.1.2 in
      let e : too_hard ≡ ambiguous two.0 two.1 = answer_one p sort shown h.1.0 k.1.0 too_hard
      (ambiguous two.0 two.1) h.1.1 k.1.1 h.1.2 two.2 in
      absurd (cc)
  defect_one (Depth n) (Bytes m) h k = absurd (long_short size 262144 k.0 h.0)
  defect_one (Depth n) (Tokens m) h k = absurd (k.3 h.1.0 h.1.1)
  defect_one (Depth n) Items h k = let e : too_deep n ≡ too_hard = answer_one p sort shown h.1.0
      k.1.0 (too_deep n) too_hard h.1.1 k.1.1 h.1.2 k.1.2 in absurd (cc)
  defect_one (Depth n) (Depth m) h k =
      let e : too_deep n ≡ too_deep m = answer_one p sort shown h.1.0 k.1.0 (too_deep n)
      (too_deep m) h.1.1 k.1.1 h.1.2 k.1.2 in
      let same : n ≡ m = cc in
      inl (ap Depth same)
  defect_one (Depth n) (Ambiguous some more) h k =
      let two = k.1.2 in
      let e : too_deep n ≡ ambiguous two.0 two.1 = answer_one p sort shown h.1.0 k.1.0 (too_deep n)
      (ambiguous two.0 two.1) h.1.1 k.1.1 h.1.2 two.2 in
      absurd (cc)
  defect_one (Ambiguous one other) (Bytes m) h k = absurd (long_short size 262144 k.0 h.0)
  defect_one (Ambiguous one other) (Tokens m) h k = absurd (k.3 h.1.0 h.1.1)
  defect_one (Ambiguous one other) Items h k =
      let two = h.1.2 in
      let e : ambiguous two.0 two.1 ≡ too_hard = answer_one p sort shown h.1.0 k.1.0
      (ambiguous two.0 two.1) too_hard h.1.1 k.1.1 two.2 k.1.2 in
      absurd (cc)
  defect_one (Ambiguous one other) (Depth m) h k =
      let two = h.1.2 in
      let e : ambiguous two.0 two.1 ≡ too_deep m = answer_one p sort shown h.1.0 k.1.0
      (ambiguous two.0 two.1) (too_deep m) h.1.1 k.1.1 two.2 k.1.2 in
      absurd (cc)
  defect_one (Ambiguous one other) (Ambiguous some more) h k =
      as_printed one other some more
      (unread_one p sort shown 0 h.1.0 k.1.0 (unread.Ambiguous one other)
      (unread.Ambiguous some more) h.1.1 k.1.1 h.1.2 k.1.2)

  pub defect_none : (a : PrintDefect) → size ≤ 262144 → IsUnprintable p sort size shown t a →
      ReadsOnly p sort shown t → ⊥
  defect_none (Bytes n) short h k = long_short size 262144 h.0 short
  defect_none (Tokens n) short h k = h.3 k.0 k.2.cut
  defect_none Items short h k = let e : too_hard ≡ only k.1 = answer_one p sort shown h.1.0 k.0
      too_hard (only k.1) h.1.1 k.2.cut h.1.2 k.2.answer in cc
  defect_none (Depth n) short h k = let e : too_deep n ≡ only k.1 = answer_one p sort shown h.1.0
      k.0 (too_deep n) (only k.1) h.1.1 k.2.cut h.1.2 k.2.answer in cc
  defect_none (Ambiguous one other) short h k =
      let two = h.1.2 in
      let e : ambiguous two.0 two.1 ≡ only k.1 = answer_one p sort shown h.1.0 k.0
      (ambiguous two.0 two.1) (only k.1) h.1.1 k.2.cut two.2 k.2.answer in
      cc
