-- How the texts of the core notation go on.
use Rattle.std.proofs.Common.{◌≡◌, ℕ, zero, suc, ◌+◌, ◌^◌, ◌-◌, ◌<◌, ◌≤◌, ◌⊎◌, inl, inr, ⊎_elim, List, [], ◌∷◌, ◌++◌, length, length-append, length-take-le, take-append-drop, append-nil, take, drop, refl, ap, ◌∙◌, sym, subst, append_assoc, decimal, arith}
use Rattle.std.specs.Str.{IsUtf8}
use Rattle.std.proofs.lemmas.Str.{IsUtf8-append, encode_ascii}
use Rattle.std.proofs.Math.Seq.{take-append-add}
use Rattle.sx_term.specs.declared.lex_kind.LexKind.{LexKind}
use Rattle.sx_term.specs.declared.lex_kind.LexKind.TheVariants.{Id, Num as NumKind, Str}
use Rattle.sx_term.specs.Tree.{Tree, Trees, node, lexeme, hole, none, ◌▹◌}
use Rattle.sx_term.specs.Core.{core, cores, kind_byte, HasCore, HaveCore}
use Rattle.sx_term.specs.Reading.{IsFront, IsStuck, IsLongest, IsNumber, IsNoNumber, Rest, Want}
use Rattle.sx_term.specs.Reading.{TextOfLength}
use Rattle.sx_term.proofs.Languages.{head_of, tail_of, stuck_step, stuck_here, longest_step, longest_here}
use Rattle.sx_term.proofs.Numbers.{Num, no_number, number_stuck, number_longest}

-- behind a term inside open nodes
rest_heads_of : (ks : Trees) (b : ℕ) (z w : List ℕ) → b ∷ z ≡ cores ks ++ (41 ∷ w) → (b ≡ 41) ⊎ (b ≡ 32)
rest_heads_of none b z w e = inl cc
rest_heads_of (t ▹ ts) b z w e = inr cc

pub rest_heads : (n b : ℕ) (z : List ℕ) → Rest (suc n) (b ∷ z) → (b ≡ 41) ⊎ (b ≡ 32)
rest_heads n b z r = rest_heads_of r.0 b z r.2 r.3

rest_nil_of : (ks : Trees) (w : List ℕ) → [] ≡ cores ks ++ (41 ∷ w) → ⊥
rest_nil_of none w e = cc
rest_nil_of (t ▹ ts) w e = cc

pub rest_nil : (n : ℕ) → Rest (suc n) [] → ⊥
rest_nil n r = rest_nil_of r.0 r.2 r.3

pub rest_some : (n : ℕ) → (y : List ℕ) × Rest n y
rest_some zero = ([], refl)
rest_some (suc n) = let r = rest_some n in (41 ∷ r.0, (none, tt, r.0, refl, r.1))

pub rest_front : (n : ℕ) → IsFront (Rest n) []
rest_front n = rest_some n

close_goes_of : (n : ℕ) (ks : Trees) (z w : List ℕ) → 41 ∷ z ≡ cores ks ++ (41 ∷ w) → Rest n w → Rest n z
close_goes_of n none z w e r = let q : w ≡ z = cc in subst (Rest n) q r
close_goes_of n (t ▹ ts) z w e r = let q = head_of 41 32 z ((core t ++ cores ts) ++ (41 ∷ w)) e in absurd (omega arith)

pub close_goes : (n : ℕ) (z : List ℕ) → Rest (suc n) (41 ∷ z) → Rest n z
close_goes n z r = close_goes_of n r.0 z r.2 r.3 r.4

pub close_comes : (n : ℕ) (z : List ℕ) → Rest n z → Rest (suc n) (41 ∷ z)
close_comes n z r = (none, tt, z, refl, r)

blank_goes_of : (n : ℕ) (ks : Trees) (z w : List ℕ) → HaveCore ks → 32 ∷ z ≡ cores ks ++ (41 ∷ w) → Rest n w → Want (suc n) z
blank_goes_of n none z w h e r = let q = head_of 32 41 z w e in absurd (omega arith)
blank_goes_of n (t ▹ ts) z w h e r =
    let q : z ≡ (core t ++ cores ts) ++ (41 ∷ w) = cc in
    (t, h.0, cores ts ++ (41 ∷ w), q ∙ append_assoc (core t) (cores ts) (41 ∷ w), (ts, h.1, w, refl, r))

pub blank_goes : (n : ℕ) (z : List ℕ) → Rest (suc n) (32 ∷ z) → Want (suc n) z
blank_goes n z r = blank_goes_of n r.0 z r.2 r.1 r.3 r.4

pub blank_comes : (n : ℕ) (z : List ℕ) → Want (suc n) z → Rest (suc n) (32 ∷ z)
blank_comes n z w =
    let r = w.4 in
    (w.0 ▹ r.0, (w.1, r.1), r.2, ap (λ x. 32 ∷ x) (w.3 ∙ ap (λ x. core w.0 ++ x) r.3 ∙ sym (append_assoc (core w.0) (cores r.0) (41 ∷ r.2))), r.4)

-- a term
pub want_front : (n : ℕ) → IsFront (Want n) []
want_front n = let r = rest_some n in (core (hole 0) ++ r.0, (hole 0, omega arith, r.0, refl, r.1))

core_nil : (t : Tree) (y : List ℕ) → [] ≡ core t ++ y → ⊥
core_nil (node l ks) y e = cc
core_nil (lexeme k x) y e = cc
core_nil (hole v) y e = cc

pub want_nil : (n : ℕ) → Want n [] → ⊥
want_nil n w = core_nil w.0 w.2 w.3

-- what follows the number of bytes of a lexeme
abbrev pub Lexeme : ℕ → ℕ → List ℕ → Type 0
Lexeme n len z = (t : List ℕ) × TextOfLength len t × (y : List ℕ) × (z ≡ 58 ∷ (t ++ y)) × Rest n y

abbrev pub TextRest : ℕ → ℕ → List ℕ → Type 0
TextRest n len z = (t : List ℕ) × TextOfLength len t × (y : List ℕ) × (z ≡ t ++ y) × Rest n y

pub kind_range : (k : LexKind) → (105 ≤ kind_byte k) × (kind_byte k ≤ 115)
kind_range Id = (omega arith, omega arith)
kind_range NumKind = (omega arith, omega arith)
kind_range Str = (omega arith, omega arith)

open_goes_of : (n : ℕ) (t : Tree) (z y : List ℕ) → HasCore t → 40 ∷ z ≡ core t ++ y → Rest n y → Num 0 (2 ^ 32 - 1) (λ l. Rest (suc n)) z
open_goes_of n (node l ks) z y h e r =
    let q : z ≡ (decimal l ++ (cores ks ++ 41 ∷ [])) ++ y = cc in
    (l, omega arith, let g = h.0 in omega arith, cores ks ++ (41 ∷ y), q ∙ append_assoc (decimal l) (cores ks ++ 41 ∷ []) y ∙ ap (λ x. decimal l ++ x) (append_assoc (cores ks) (41 ∷ []) y), (ks, h.1, y, refl, r))
open_goes_of n (lexeme k x) z y h e r =
    let q = head_of 40 (kind_byte k) z ((decimal (length x) ++ (58 ∷ x)) ++ y) e in
    let g = kind_range k in absurd (omega arith)
open_goes_of n (hole v) z y h e r = let q = head_of 40 63 z (decimal v ++ y) e in absurd (omega arith)

pub open_goes : (n : ℕ) (z : List ℕ) → Want n (40 ∷ z) → Num 0 (2 ^ 32 - 1) (λ l. Rest (suc n)) z
open_goes n z w = open_goes_of n w.0 z w.2 w.1 w.3 w.4

pub open_comes : (n : ℕ) (z : List ℕ) → Num 0 (2 ^ 32 - 1) (λ l. Rest (suc n)) z → Want n (40 ∷ z)
open_comes n z w =
    let r = w.5 in (
      node w.0 r.0,
      (let g = w.2 in omega arith, r.1),
      r.2,
      ap (λ x. 40 ∷ x) (w.4 ∙ ap (λ x. decimal w.0 ++ x) (r.3 ∙ sym (append_assoc (cores r.0) (41 ∷ []) r.2)) ∙ sym (append_assoc (decimal w.0) (cores r.0 ++ 41 ∷ []) r.2)),
      r.4,
    )

hole_goes_of : (n : ℕ) (t : Tree) (z y : List ℕ) → HasCore t → 63 ∷ z ≡ core t ++ y → Rest n y → Num 0 63 (λ v. Rest n) z
hole_goes_of n (node l ks) z y h e r = let q = head_of 63 40 z ((decimal l ++ (cores ks ++ 41 ∷ [])) ++ y) e in absurd (omega arith)
hole_goes_of n (lexeme k x) z y h e r =
    let q = head_of 63 (kind_byte k) z ((decimal (length x) ++ (58 ∷ x)) ++ y) e in
    let g = kind_range k in absurd (omega arith)
hole_goes_of n (hole v) z y h e r = (v, omega arith, omega arith, y, tail_of 63 63 z (decimal v ++ y) e, r)

pub hole_goes : (n : ℕ) (z : List ℕ) → Want n (63 ∷ z) → Num 0 63 (λ v. Rest n) z
hole_goes n z w = hole_goes_of n w.0 z w.2 w.1 w.3 w.4

pub hole_comes : (n : ℕ) (z : List ℕ) → Num 0 63 (λ v. Rest n) z → Want n (63 ∷ z)
hole_comes n z w = (hole w.0, let g = w.2 in omega arith, w.3, ap (λ x. 63 ∷ x) w.4, w.5)

lexeme_goes_of : (n b : ℕ) (t : Tree) (z y : List ℕ) → 105 ≤ b → HasCore t → b ∷ z ≡ core t ++ y → Rest n y → Num 1 65535 (Lexeme n) z
lexeme_goes_of n b (node l ks) z y g h e r = let q = head_of b 40 z ((decimal l ++ (cores ks ++ 41 ∷ [])) ++ y) e in absurd (omega arith)
lexeme_goes_of n b (lexeme k x) z y g h e r =
    (length x, h.0, h.1, 58 ∷ (x ++ y), tail_of b (kind_byte k) z ((decimal (length x) ++ (58 ∷ x)) ++ y) e ∙ append_assoc (decimal (length x)) (58 ∷ x) y, (x, (refl, h.2), y, refl, r))
lexeme_goes_of n b (hole v) z y g h e r = let q = head_of b 63 z (decimal v ++ y) e in absurd (omega arith)

pub lexeme_goes : (n : ℕ) (k : LexKind) (z : List ℕ) → Want n (kind_byte k ∷ z) → Num 1 65535 (Lexeme n) z
lexeme_goes n k z w = lexeme_goes_of n (kind_byte k) w.0 z w.2 (kind_range k).0 w.1 w.3 w.4

pub lexeme_comes : (n : ℕ) (k : LexKind) (z : List ℕ) → Num 1 65535 (Lexeme n) z → Want n (kind_byte k ∷ z)
lexeme_comes n k z w =
    let l = w.5 in
    let q : length l.0 ≡ w.0 = l.1.0 in (
      lexeme k l.0,
      (let g = w.1 in omega arith, let g = w.2 in omega arith, l.1.1),
      l.2,
      ap (λ x. kind_byte k ∷ x) (w.4 ∙ ap (λ x. decimal w.0 ++ x) l.3 ∙ ap (λ x. decimal x ++ (58 ∷ (l.0 ++ l.2))) (sym q) ∙ sym (append_assoc (decimal (length l.0)) (58 ∷ l.0) l.2)),
      l.4,
    )

want_heads_of : (t : Tree) (b : ℕ) (z y : List ℕ) → b ∷ z ≡ core t ++ y → (b ≡ 40) ⊎ ((b ≡ 63) ⊎ ((k : LexKind) × (b ≡ kind_byte k)))
want_heads_of (node l ks) b z y e = inl (head_of b 40 z ((decimal l ++ (cores ks ++ 41 ∷ [])) ++ y) e)
want_heads_of (lexeme k x) b z y e = inr (inr (k, head_of b (kind_byte k) z ((decimal (length x) ++ (58 ∷ x)) ++ y) e))
want_heads_of (hole v) b z y e = inr (inl (head_of b 63 z (decimal v ++ y) e))

pub want_heads : (n b : ℕ) (z : List ℕ) → Want n (b ∷ z) → (b ≡ 40) ⊎ ((b ≡ 63) ⊎ ((k : LexKind) × (b ≡ kind_byte k)))
want_heads n b z w = want_heads_of w.0 b z w.2 w.3

-- no digit may follow where a number has ended
pub rest_digit : (n v d : ℕ) (z : List ℕ) → d < 10 → Rest n ((48 + d) ∷ z) → ⊥
rest_digit zero v d z h r = cc
rest_digit (suc n) v d z h r = ⊎_elim (λ e. omega arith) (λ e. omega arith) (rest_heads n (48 + d) z r)

pub lexeme_digit : (n v d : ℕ) (z : List ℕ) → d < 10 → Lexeme n v ((48 + d) ∷ z) → ⊥
lexeme_digit n v d z h l = let q = head_of (48 + d) 58 z (l.0 ++ l.2) l.3 in omega arith

lexeme_nil : (n v : ℕ) → Lexeme n v [] → ⊥
lexeme_nil n v l = let e : [] ≡ 58 ∷ (l.0 ++ l.2) = l.3 in cc

-- a node
pub open_stuck : (n v k : ℕ) (z rest : List ℕ) → IsNumber z 0 (2 ^ 32 - 1) v rest → IsStuck (Rest (suc n)) rest k → IsStuck (Want n) (40 ∷ z) (k + length (decimal v) + 1)
open_stuck n v k z rest m s =
    stuck_step (Want n) (Num 0 (2 ^ 32 - 1) (λ l. Rest (suc n))) 40 z (open_goes n) (open_comes n) (k + length (decimal v)) (want_nil n)
    (number_stuck 0 (2 ^ 32 - 1) (omega arith) (λ l. Rest (suc n)) (rest_digit (suc n)) (λ v w c. c) z v rest k (omega arith) m s)

pub open_longest : (n v k : ℕ) (z rest : List ℕ) → IsNumber z 0 (2 ^ 32 - 1) v rest → IsLongest (Rest (suc n)) rest k → IsLongest (Want n) (40 ∷ z) (k + length (decimal v) + 1)
open_longest n v k z rest m s =
    longest_step (Want n) (Num 0 (2 ^ 32 - 1) (λ l. Rest (suc n))) 40 z (open_goes n) (open_comes n) (k + length (decimal v))
    (number_longest 0 (2 ^ 32 - 1) (omega arith) (λ l. Rest (suc n)) (rest_digit (suc n)) z v rest k (omega arith) m s)

pub open_none : (n : ℕ) (z : List ℕ) → IsNoNumber z 0 → IsStuck (Want n) (40 ∷ z) 1
open_none n z m =
    stuck_step (Want n) (Num 0 (2 ^ 32 - 1) (λ l. Rest (suc n))) 40 z (open_goes n) (open_comes n) 0 (want_nil n)
    (no_number 0 (2 ^ 32 - 1) (omega arith) (λ l. Rest (suc n)) (rest_digit (suc n)) z (omega arith) m
    (let r = rest_some (suc n) in (decimal 0 ++ r.0, (0, omega arith, omega arith, r.0, refl, r.1))))

-- a variable
pub hole_stuck : (n v k : ℕ) (z rest : List ℕ) → IsNumber z 0 63 v rest → IsStuck (Rest n) rest k → IsStuck (Want n) (63 ∷ z) (k + length (decimal v) + 1)
hole_stuck n v k z rest m s =
    stuck_step (Want n) (Num 0 63 (λ v. Rest n)) 63 z (hole_goes n) (hole_comes n) (k + length (decimal v)) (want_nil n)
    (number_stuck 0 63 (omega arith) (λ v. Rest n) (rest_digit n) (λ v w c. c) z v rest k (omega arith) m s)

pub hole_longest : (n v k : ℕ) (z rest : List ℕ) → IsNumber z 0 63 v rest → IsLongest (Rest n) rest k → IsLongest (Want n) (63 ∷ z) (k + length (decimal v) + 1)
hole_longest n v k z rest m s =
    longest_step (Want n) (Num 0 63 (λ v. Rest n)) 63 z (hole_goes n) (hole_comes n) (k + length (decimal v))
    (number_longest 0 63 (omega arith) (λ v. Rest n) (rest_digit n) z v rest k (omega arith) m s)

pub hole_none : (n : ℕ) (z : List ℕ) → IsNoNumber z 0 → IsStuck (Want n) (63 ∷ z) 1
hole_none n z m =
    stuck_step (Want n) (Num 0 63 (λ v. Rest n)) 63 z (hole_goes n) (hole_comes n) 0 (want_nil n)
    (no_number 0 63 (omega arith) (λ v. Rest n) (rest_digit n) z (omega arith) m
    (let r = rest_some n in (decimal 0 ++ r.0, (0, omega arith, omega arith, r.0, refl, r.1))))

-- a lexeme
pub lexeme_stuck : (n v k : ℕ) (j : LexKind) (z rest : List ℕ) → IsNumber z 1 65535 v rest → IsStuck (Lexeme n v) rest k → IsStuck (Want n) (kind_byte j ∷ z) (k + length (decimal v) + 1)
lexeme_stuck n v k j z rest m s =
    stuck_step (Want n) (Num 1 65535 (Lexeme n)) (kind_byte j) z (lexeme_goes n j) (lexeme_comes n j) (k + length (decimal v)) (want_nil n)
    (number_stuck 1 65535 (omega arith) (Lexeme n) (lexeme_digit n) (λ v w c. absurd (lexeme_nil n v c)) z v rest k (omega arith) m s)

pub lexeme_longest : (n v k : ℕ) (j : LexKind) (z rest : List ℕ) → IsNumber z 1 65535 v rest → IsLongest (Lexeme n v) rest k → IsLongest (Want n) (kind_byte j ∷ z) (k + length (decimal v) + 1)
lexeme_longest n v k j z rest m s =
    longest_step (Want n) (Num 1 65535 (Lexeme n)) (kind_byte j) z (lexeme_goes n j) (lexeme_comes n j) (k + length (decimal v))
    (number_longest 1 65535 (omega arith) (Lexeme n) (lexeme_digit n) z v rest k (omega arith) m s)

-- a text of any length
abbrev pub fill : ℕ → List ℕ
fill zero = []
fill (suc n) = 97 ∷ fill n

one_letter : IsUtf8 (97 ∷ [])
one_letter = (97 ∷ [], (refl, ap (λ x. x ++ []) (encode_ascii 97 (omega arith))))

fill_utf8 : (n : ℕ) → IsUtf8 (fill n)
fill_utf8 zero = ([], (refl, refl))
fill_utf8 (suc n) = IsUtf8-append (97 ∷ []) (fill n) one_letter (fill_utf8 n)

fill_length : (n : ℕ) → length (fill n) ≡ n
fill_length zero = refl
fill_length (suc n) = omega (arith, fill_length n)

pub fill_text : (n : ℕ) → TextOfLength n (fill n)
fill_text n = (fill_length n, fill_utf8 n)

text_rest_some : (n v : ℕ) → (y : List ℕ) × TextRest n v y
text_rest_some n v = let r = rest_some n in (fill v ++ r.0, (fill v, fill_text v, r.0, refl, r.1))

lexeme_some : (n v : ℕ) → (y : List ℕ) × Lexeme n v y
lexeme_some n v = let r = rest_some n in (58 ∷ (fill v ++ r.0), (fill v, fill_text v, r.0, refl, r.1))

pub lexeme_none : (n : ℕ) (j : LexKind) (z : List ℕ) → IsNoNumber z 1 → IsStuck (Want n) (kind_byte j ∷ z) 1
lexeme_none n j z m =
    stuck_step (Want n) (Num 1 65535 (Lexeme n)) (kind_byte j) z (lexeme_goes n j) (lexeme_comes n j) 0 (want_nil n)
    (no_number 1 65535 (omega arith) (Lexeme n) (lexeme_digit n) z (omega arith) m
    (let r = lexeme_some n 1 in (decimal 1 ++ r.0, (1, omega arith, omega arith, r.0, refl, r.1))))

-- the colon
colon_goes : (n v : ℕ) (z : List ℕ) → Lexeme n v (58 ∷ z) → TextRest n v z
colon_goes n v z l = (l.0, l.1, l.2, tail_of 58 58 z (l.0 ++ l.2) l.3, l.4)

colon_comes : (n v : ℕ) (z : List ℕ) → TextRest n v z → Lexeme n v (58 ∷ z)
colon_comes n v z l = (l.0, l.1, l.2, ap (λ x. 58 ∷ x) l.3, l.4)

pub colon_none : (n v : ℕ) (s : List ℕ) → ((r : List ℕ) → s ≡ 58 ∷ r → ⊥) → IsStuck (Lexeme n v) s 0
colon_none n v s f = stuck_here (Lexeme n v) s (λ b r z e l. f r (e ∙ ap (λ x. x ∷ r) (head_of b 58 z (l.0 ++ l.2) l.3))) (lexeme_nil n v) (lexeme_some n v)

pub colon_stuck : (n v k : ℕ) (s : List ℕ) → IsStuck (TextRest n v) s k → IsStuck (Lexeme n v) (58 ∷ s) (k + 1)
colon_stuck n v k s m = stuck_step (Lexeme n v) (TextRest n v) 58 s (colon_goes n v) (colon_comes n v) k (lexeme_nil n v) m

pub colon_longest : (n v k : ℕ) (s : List ℕ) → IsLongest (TextRest n v) s k → IsLongest (Lexeme n v) (58 ∷ s) (k + 1)
colon_longest n v k s m = longest_step (Lexeme n v) (TextRest n v) 58 s (colon_goes n v) (colon_comes n v) k m

-- two fronts of one length
pub front_same : (a b x y : List ℕ) → length a ≡ length b → a ++ x ≡ b ++ y → (a ≡ b) × (x ≡ y)
front_same [] [] x y l e = (refl, e)
front_same [] (c ∷ b) x y l e = absurd (omega arith)
front_same (c ∷ a) [] x y l e = absurd (omega arith)
front_same (c ∷ a) (d ∷ b) x y l e =
    let r = front_same a b x y (omega arith) (tail_of c d (a ++ x) (b ++ y) e) in
    let h = head_of c d (a ++ x) (b ++ y) e in
    (let p = r.0 in cc, r.1)

take_past : (t rest : List ℕ) (k : ℕ) → take (k + length t) (t ++ rest) ≡ t ++ take k rest
take_past t rest k = ap (λ x. take x (t ++ rest)) (let q : k + length t ≡ length t + k = omega arith in q) ∙ take-append-add t rest k

text_none : (n v : ℕ) (t s : List ℕ) → length t ≡ v → ((w r : List ℕ) → Rest n w → s ≡ w ++ r → ⊥) → (w r : List ℕ) → TextRest n v w → t ++ s ≡ w ++ r → ⊥
text_none n v t s h f w r l q =
    let p = front_same t l.0 s (l.2 ++ r) (let a = l.1.0 in omega arith) (q ∙ ap (λ x. x ++ r) l.3 ∙ append_assoc l.0 l.2 r) in
    f l.2 r l.4 p.1

text_longest_of : (n v k : ℕ) (t s : List ℕ) → length t ≡ v → ((w r : List ℕ) → Rest n w → s ≡ w ++ r → length w ≤ k) → (w r : List ℕ) → TextRest n v w → t ++ s ≡ w ++ r → length w ≤ k + length t
text_longest_of n v k t s h f w r l q =
    let a = l.1.0 in
    let p = front_same t l.0 s (l.2 ++ r) (omega arith) (q ∙ ap (λ x. x ++ r) l.3 ∙ append_assoc l.0 l.2 r) in
    let g = f l.2 r l.4 p.1 in
    omega (arith, ap length l.3, length-append l.0 l.2)

text_here : (n v k : ℕ) (t s : List ℕ) → length t ≡ v → (IsFront (Rest n) (take (k + 1) s) → ⊥) → IsFront (TextRest n v) (take (k + length t + 1) (t ++ s)) → ⊥
text_here n v k t s h g f =
    let l = f.1 in
    let q : take (k + length t + 1) (t ++ s) ≡ t ++ take (k + 1) s = ap (λ x. take x (t ++ s)) (let e : k + length t + 1 ≡ k + 1 + length t = omega arith in e) ∙ take_past t s (k + 1) in
    let p = front_same t l.0 (take (k + 1) s ++ f.0) l.2 (let a = l.1.0 in omega arith) (sym (append_assoc t (take (k + 1) s) f.0) ∙ ap (λ x. x ++ f.0) (sym q) ∙ l.3) in
    g (f.0, subst (Rest n) (sym p.1) l.4)

-- past the bytes of a lexeme
pub text_stuck : (n v k : ℕ) (t s : List ℕ) → TextOfLength v t → IsStuck (Rest n) s k → IsStuck (TextRest n v) (t ++ s) (k + length t)
text_stuck n v k t s h m = record {
  within = let w = m.within in omega (arith, length-append t s);
  front = (m.front.0, (t, h, take k s ++ m.front.0, ap (λ x. x ++ m.front.0) (take_past t s k) ∙ append_assoc t (take k s) m.front.0, m.front.1));
  none = text_none n v t s h.0 m.none;
  here = λ g f. text_here n v k t s h.0 (m.here (omega (arith, length-append t s))) f;
}

pub text_longest : (n v k : ℕ) (t s : List ℕ) → TextOfLength v t → IsLongest (Rest n) s k → IsLongest (TextRest n v) (t ++ s) (k + length t)
text_longest n v k t s h m = record {
  within = let w = m.within in omega (arith, length-append t s);
  text = (t, h, take k s, take_past t s k, m.text);
  longest = text_longest_of n v k t s h.0 m.longest;
}

front_of : (a z t y : List ℕ) → a ++ z ≡ t ++ y → length a ≤ length t → (r : List ℕ) × (t ≡ a ++ r)
front_of [] z t y e h = (t, refl)
front_of (c ∷ a) z [] y e h = absurd (omega arith)
front_of (c ∷ a) z (d ∷ t) y e h =
    let r = front_of a z t y (tail_of c d (a ++ z) (t ++ y) e) (omega arith) in
    let g = head_of c d (a ++ z) (t ++ y) e in
    (r.0, let p = r.1 in cc)

-- the bytes so far are fewer than the lexeme's
not_all : (v k : ℕ) (s z : List ℕ) → k < length s → ((t r : List ℕ) → TextOfLength v t → s ≡ t ++ r → ⊥) → TextOfLength v (take k s ++ z) → k + 1 ≤ v
not_all v k s [] h n t = absurd (n (take k s ++ []) (drop k s) t (sym (take-append-drop k s) ∙ ap (λ x. x ++ drop k s) (sym (append-nil (take k s)))))
not_all v k s (c ∷ z) h n t = let e = t.0 in omega (arith, length-append (take k s) (c ∷ z), length-take-le k s (omega arith))

text_bad_here : (v k : ℕ) (s t z y : List ℕ) → k < length s → ((t r : List ℕ) → TextOfLength v t → s ≡ t ++ r → ⊥) → (z0 : List ℕ) → TextOfLength v (take k s ++ z0) → (k < length s → IsFront (TextOfLength v) (take (k + 1) s) → ⊥) → TextOfLength v t → take (k + 1) s ++ z ≡ t ++ y → ⊥
text_bad_here v k s t z y h n z0 m here x e =
    let a = not_all v k s z0 h n m in
    let l = x.0 in
    let r = front_of (take (k + 1) s) z t y e (omega (arith, length-take-le (k + 1) s (omega arith))) in
    here h (r.0, subst (TextOfLength v) r.1 x)

-- within the bytes of a lexeme
pub text_bad : (n v k : ℕ) (s : List ℕ) → IsStuck (TextOfLength v) s k → IsStuck (TextRest n v) s k
text_bad n v k s m = record {
  within = m.within;
  front = (let r = rest_some n in (m.front.0 ++ r.0, (take k s ++ m.front.0, m.front.1, r.0, sym (append_assoc (take k s) m.front.0 r.0), r.1)));
  none = λ w r l q. m.none l.0 (l.2 ++ r) l.1 (q ∙ ap (λ x. x ++ r) l.3 ∙ append_assoc l.0 l.2 r);
  here = λ h f. let l = f.1 in text_bad_here v k s l.0 f.0 l.2 h m.none m.front.0 m.front.1 m.here l.1 l.3;
}

-- a term
pub want_none : (n : ℕ) (s : List ℕ) → ((b : ℕ) (r : List ℕ) → s ≡ b ∷ r → (b ≡ 40) ⊎ ((b ≡ 63) ⊎ ((k : LexKind) × (b ≡ kind_byte k))) → ⊥) → IsStuck (Want n) s 0
want_none n s f = stuck_here (Want n) s (λ b r z e w. f b r e (want_heads n b z w)) (want_nil n) (want_front n)

-- behind a term
pub close_stuck : (n k : ℕ) (s : List ℕ) → IsStuck (Rest n) s k → IsStuck (Rest (suc n)) (41 ∷ s) (k + 1)
close_stuck n k s m = stuck_step (Rest (suc n)) (Rest n) 41 s (close_goes n) (close_comes n) k (rest_nil n) m

pub close_longest : (n k : ℕ) (s : List ℕ) → IsLongest (Rest n) s k → IsLongest (Rest (suc n)) (41 ∷ s) (k + 1)
close_longest n k s m = longest_step (Rest (suc n)) (Rest n) 41 s (close_goes n) (close_comes n) k m

pub blank_stuck : (n k : ℕ) (s : List ℕ) → IsStuck (Want (suc n)) s k → IsStuck (Rest (suc n)) (32 ∷ s) (k + 1)
blank_stuck n k s m = stuck_step (Rest (suc n)) (Want (suc n)) 32 s (blank_goes n) (blank_comes n) k (rest_nil n) m

pub blank_longest : (n k : ℕ) (s : List ℕ) → IsLongest (Want (suc n)) s k → IsLongest (Rest (suc n)) (32 ∷ s) (k + 1)
blank_longest n k s m = longest_step (Rest (suc n)) (Want (suc n)) 32 s (blank_goes n) (blank_comes n) k m

pub rest_none : (n : ℕ) (s : List ℕ) → ((b : ℕ) (r : List ℕ) → s ≡ b ∷ r → (b ≡ 41) ⊎ (b ≡ 32) → ⊥) → IsStuck (Rest (suc n)) s 0
rest_none n s f = stuck_here (Rest (suc n)) s (λ b r z e w. f b r e (rest_heads n b z w)) (rest_nil n) (rest_front (suc n))

pub rest_ends : (s : List ℕ) → IsLongest (Rest zero) s 0
rest_ends s = longest_here (Rest zero) s (λ b r z e w. let q : b ∷ z ≡ [] = w in cc) refl
