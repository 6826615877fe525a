-- Items in little room: no two of them are packed in the same way.
use Rattle.std.proofs.Common.{◌≡◌, ℕ, zero, suc, ◌/◌, ◌%◌, ◌<◌, refl, sym, ap, ◌∙◌, arith}
use Rattle.sx_grammar.specs.declared.head.Head.{Head}
use Rattle.sx_grammar.specs.declared.head.Head.TheVariants.{Labelled, Bracketed}
use Rattle.sx_grammar.specs.declared.item.Item.{Item}
use Rattle.sx_earley.specs.declared.packed_item.PackedItem.{PackedItem}
use Rattle.sx_earley.specs.PackedItem.{head_by, unpacked}

kind_of : Head → ℕ
kind_of (Labelled label) = 0
kind_of (Bracketed sort) = 1

number_in : Head → ℕ
number_in (Labelled label) = label
number_in (Bracketed sort) = sort

kind_by : (k number : ℕ) → k < 2 → kind_of (head_by k number) ≡ k
unfolding kind_of
kind_by zero number l = refl
kind_by (suc zero) number l = refl
kind_by (suc (suc k)) number l = absurd (omega arith)

number_by : (k number : ℕ) → number_in (head_by k number) ≡ number
unfolding number_in
number_by zero number = refl
number_by (suc k) number = refl

pub labelled_by : (k number : ℕ) → k ≡ 0 → Labelled number ≡ head_by k number
labelled_by zero number e = refl
labelled_by (suc k) number e = absurd (omega arith)

pub bracketed_by : (k number : ℕ) → (k ≡ 0 → ⊥) → Bracketed number ≡ head_by k number
bracketed_by zero number d = absurd (d refl)
bracketed_by (suc k) number d = refl

-- the parts of an item tell how it is packed
pub packed_once : (p q : PackedItem) → unpacked p ≡ unpacked q → p ≡ q
packed_once p q e =
    let kind : p.shape % 2 ≡ q.shape % 2 =
    sym (kind_by (p.shape % 2) p.number (omega arith)) ∙ ap (λ (i : Item). kind_of i.head) e ∙ kind_by (q.shape % 2) q.number (omega arith) in
    let number : p.number ≡ q.number = sym (number_by (p.shape % 2) p.number) ∙ ap (λ (i : Item). number_in i.head) e ∙ number_by (q.shape % 2) q.number in
    let dot : p.shape / 2 ≡ q.shape / 2 = ap (λ (i : Item). i.dot) e in
    let shape : p.shape ≡ q.shape = omega arith in
    let origin : p.origin ≡ q.origin = ap (λ (i : Item). i.origin) e in
    let end : p.end ≡ q.end = ap (λ (i : Item). i.end) e in
    λ i. record { number = number i; shape = shape i; origin = origin i; end = end i }
