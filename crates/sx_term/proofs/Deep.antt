-- How deep what is to come is.
use Rattle.std.proofs.Common.{◌≡◌, ℕ, zero, suc, ◌+◌, ◌^◌, ◌-◌, ◌≤◌, max, List, [], ◌∷◌, ◌++◌, length, refl, ◌∙◌, sym, subst, append_assoc, decimal, arith}
use Rattle.sx_term.specs.declared.lex_kind.LexKind.{LexKind}
use Rattle.sx_term.specs.Tree.{Tree, Trees, node, lexeme, hole, none, ◌▹◌, depth_of, greatest_depth}
use Rattle.sx_term.specs.Core.{core, cores, kind_byte, HasCore, HaveCore, NoDigit}
use Rattle.sx_term.specs.Reading.{IsNumber, RestOf, WantOf}
use Rattle.sx_term.proofs.Languages.{head_of, tail_of}
use Rattle.sx_term.proofs.Numbers.{number_is}
use Rattle.sx_term.proofs.Grammar.{kind_range, front_same}
use Rattle.sx_term.proofs.OneReading.{open_text, lexeme_text, no_digit_cores}

empty_no_digit : NoDigit []
empty_no_digit d z h e = cc

colon_no_digit : (z : List ℕ) → NoDigit (58 ∷ z)
colon_no_digit z d r h e = let q = head_of 58 (48 + d) z r e in omega arith

rest_no_digit : (n e : ℕ) (y : List ℕ) → RestOf n e y → NoDigit y
rest_no_digit zero e y r = subst NoDigit (sym r.0) empty_no_digit
rest_no_digit (suc n) e y r = subst NoDigit (sym r.3) (no_digit_cores r.0 r.2)

open_deep_of : (n d v f : ℕ) (z rest y : List ℕ) (t : Tree) → IsNumber z 0 (2 ^ 32 - 1) v rest → HasCore t → 40 ∷ z ≡ core t ++ y → RestOf n f y → d ≡ max (n + depth_of t) f → (e : ℕ) × RestOf (suc n) e rest × (d ≡ max (n + 1) e)
open_deep_of n d v f z rest y (node l ks) m h e r g =
    let q = tail_of 40 40 z (decimal l ++ (cores ks ++ (41 ∷ y))) (e ∙ open_text l ks y) in
    let a = h.0 in
    let p = number_is 0 (2 ^ 32 - 1) z rest (cores ks ++ (41 ∷ y)) v l (omega arith) (omega arith) (omega arith) (no_digit_cores ks y) q m in
    (max (greatest_depth ks + suc n) f, (ks, h.1, y, p.1, f, r, refl), omega arith)
open_deep_of n d v f z rest y (lexeme k x) m h e r g = let q = head_of 40 (kind_byte k) z _ (e ∙ lexeme_text k x y) in let w = kind_range k in absurd (omega arith)
open_deep_of n d v f z rest y (hole u) m h e r g = let q = head_of 40 63 z (decimal u ++ y) e in absurd (omega arith)

pub open_deep : (n d v : ℕ) (z rest : List ℕ) → IsNumber z 0 (2 ^ 32 - 1) v rest → WantOf n d (40 ∷ z) → (e : ℕ) × RestOf (suc n) e rest × (d ≡ max (n + 1) e)
open_deep n d v z rest m w = open_deep_of n d v w.4 z rest w.2 w.0 m w.1 w.3 w.5 w.6

hole_deep_of : (n d v f : ℕ) (z rest y : List ℕ) (t : Tree) → IsNumber z 0 63 v rest → HasCore t → 63 ∷ z ≡ core t ++ y → RestOf n f y → d ≡ max (n + depth_of t) f → (e : ℕ) × RestOf n e rest × (d ≡ max (n + 1) e)
hole_deep_of n d v f z rest y (node l ks) m h e r g = let q = head_of 63 40 z _ (e ∙ open_text l ks y) in absurd (omega arith)
hole_deep_of n d v f z rest y (lexeme k x) m h e r g = let q = head_of 63 (kind_byte k) z _ (e ∙ lexeme_text k x y) in let w = kind_range k in absurd (omega arith)
hole_deep_of n d v f z rest y (hole u) m h e r g =
    let q = tail_of 63 63 z (decimal u ++ y) e in
    let p = number_is 0 63 z rest y v u (omega arith) (omega arith) (omega arith) (rest_no_digit n f y r) q m in
    (f, subst (RestOf n f) (sym p.1) r, g)

pub hole_deep : (n d v : ℕ) (z rest : List ℕ) → IsNumber z 0 63 v rest → WantOf n d (63 ∷ z) → (e : ℕ) × RestOf n e rest × (d ≡ max (n + 1) e)
hole_deep n d v z rest m w = hole_deep_of n d v w.4 z rest w.2 w.0 m w.1 w.3 w.5 w.6

lexeme_deep_of : (n d v f b : ℕ) (z rest behind t after y : List ℕ) (u : Tree) → 105 ≤ b → IsNumber z 1 65535 v rest → rest ≡ 58 ∷ behind → behind ≡ t ++ after → length t ≡ v → HasCore u → b ∷ z ≡ core u ++ y → RestOf n f y → d ≡ max (n + depth_of u) f → (e : ℕ) × RestOf n e after × (d ≡ max (n + 1) e)
lexeme_deep_of n d v f b z rest behind t after y (node l ks) o m p q s h e r g = let x = head_of b 40 z _ (e ∙ open_text l ks y) in absurd (omega arith)
lexeme_deep_of n d v f b z rest behind t after y (lexeme k x) o m p q s h e r g =
    let w = tail_of b (kind_byte k) z (decimal (length x) ++ (58 ∷ (x ++ y))) (e ∙ lexeme_text k x y) in
    let a = number_is 1 65535 z rest (58 ∷ (x ++ y)) v (length x) (omega arith) h.0 h.1 (colon_no_digit (x ++ y)) w m in
    let c = tail_of 58 58 behind (x ++ y) (sym p ∙ a.1) in
    let i = front_same t x after y (let j = a.0 in omega arith) (sym q ∙ c) in
    (f, subst (RestOf n f) (sym i.1) r, g)
lexeme_deep_of n d v f b z rest behind t after y (hole u) o m p q s h e r g = let x = head_of b 63 z (decimal u ++ y) e in absurd (omega arith)

pub lexeme_deep : (n d v : ℕ) (j : LexKind) (z rest behind t after : List ℕ) → IsNumber z 1 65535 v rest → rest ≡ 58 ∷ behind → behind ≡ t ++ after → length t ≡ v → WantOf n d (kind_byte j ∷ z) → (e : ℕ) × RestOf n e after × (d ≡ max (n + 1) e)
lexeme_deep n d v j z rest behind t after m p q s w = lexeme_deep_of n d v w.4 (kind_byte j) z rest behind t after w.2 w.0 (kind_range j).0 m p q s w.1 w.3 w.5 w.6

close_of : (n d f : ℕ) (b : ℕ) (z w : List ℕ) (ks : Trees) → b ≡ 41 → b ∷ z ≡ cores ks ++ (41 ∷ w) → RestOf n f w → d ≡ max (greatest_depth ks + suc n) f → (e : ℕ) × RestOf n e z × (d ≡ max (n + 1) e)
close_of n d f b z w none h e r g = (f, subst (RestOf n f) (sym (tail_of b 41 z w e)) r, omega arith)
close_of n d f b z w (t ▹ ts) h e r g = let q = head_of b 32 z ((core t ++ cores ts) ++ (41 ∷ w)) e in absurd (omega arith)

pub close_deep : (n d b : ℕ) (z : List ℕ) → b ≡ 41 → RestOf (suc n) d (b ∷ z) → (e : ℕ) × RestOf n e z × (d ≡ max (n + 1) e)
close_deep n d b z h r = close_of n d r.4 b z r.2 r.0 h r.3 r.5 r.6

blank_of : (n d f : ℕ) (b : ℕ) (z w : List ℕ) (ks : Trees) → b ≡ 32 → HaveCore ks → b ∷ z ≡ cores ks ++ (41 ∷ w) → RestOf n f w → d ≡ max (greatest_depth ks + suc n) f → WantOf (suc n) d z
blank_of n d f b z w none h c e r g = let q = head_of b 41 z w e in absurd (omega arith)
blank_of n d f b z w (t ▹ ts) h c e r g = (
  t,
  c.0,
  cores ts ++ (41 ∷ w),
  tail_of b 32 z ((core t ++ cores ts) ++ (41 ∷ w)) e ∙ append_assoc (core t) (cores ts) (41 ∷ w),
  max (greatest_depth ts + suc n) f,
  (ts, c.1, w, refl, f, r, refl),
  omega arith,
)

pub blank_deep : (n d b : ℕ) (z : List ℕ) → b ≡ 32 → RestOf (suc n) d (b ∷ z) → WantOf (suc n) d z
blank_deep n d b z h r = blank_of n d r.4 b z r.2 r.0 h r.1 r.3 r.5 r.6
