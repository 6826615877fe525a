-- A core text has one reading.
use Rattle.std.proofs.Common.{◌≡◌, ℕ, ◌+◌, ◌^◌, ◌-◌, ◌<◌, ◌≤◌, ◌⊎◌, inl, inr, ⊎_elim, List, [], ◌∷◌, ◌++◌, length, refl, ap, ◌∙◌, sym, subst, append_assoc, append-nil, length-append, decimal, arith}
use Rattle.sx_term.specs.declared.lex_kind.LexKind.{LexKind}
use Rattle.sx_term.specs.declared.lex_kind.LexKind.TheVariants.{Id, Num as NumKind, Str}
use Rattle.sx_term.specs.Tree.{Tree, Trees, node, lexeme, hole, none, ◌▹◌}
use Rattle.sx_term.specs.Core.{core, cores, kind_byte, HasCore, HaveCore, NoDigit}
use Rattle.std.proofs.Math.Seq.{take-append_seam}
use Rattle.sx_term.specs.Reading.{IsLongest, Want}
use Rattle.sx_term.proofs.Languages.{head_of, tail_of}
use Rattle.sx_term.proofs.Numbers.{decimal_same}
use Rattle.sx_term.proofs.Grammar.{kind_range, front_same}

no_digit_byte : (b : ℕ) (z : List ℕ) → (b < 48) ⊎ (57 < b) → NoDigit (b ∷ z)
no_digit_byte b z h d r k e = let q = head_of b (48 + d) z r e in ⊎_elim (λ a. omega arith) (λ a. omega arith) h

pub no_digit_cores : (ks : Trees) (z : List ℕ) → NoDigit (cores ks ++ (41 ∷ z))
no_digit_cores none z = no_digit_byte 41 z (inl (omega arith))
no_digit_cores (t ▹ ts) z = no_digit_byte 32 ((core t ++ cores ts) ++ (41 ∷ z)) (inl (omega arith))

no_digit_more : (ks : Trees) (z : List ℕ) → NoDigit (cores ks ++ (41 ∷ z))
no_digit_more = no_digit_cores

same_kind : (j k : LexKind) → kind_byte j ≡ kind_byte k → j ≡ k
same_kind Id Id e = refl
same_kind Id NumKind e = absurd (omega arith)
same_kind Id Str e = absurd (omega arith)
same_kind NumKind Id e = absurd (omega arith)
same_kind NumKind NumKind e = refl
same_kind NumKind Str e = absurd (omega arith)
same_kind Str Id e = absurd (omega arith)
same_kind Str NumKind e = absurd (omega arith)
same_kind Str Str e = refl

abbrev Reads : Tree → Type 0
Reads t = (u : Tree) (x y : List ℕ) → HasCore t → HasCore u → NoDigit x → NoDigit y → core t ++ x ≡ core u ++ y → (t ≡ u) × (x ≡ y)

abbrev ReadAll : Trees → Type 0
ReadAll ts = (us : Trees) (x y : List ℕ) → HaveCore ts → HaveCore us → cores ts ++ (41 ∷ x) ≡ cores us ++ (41 ∷ y) → (ts ≡ us) × (x ≡ y)

pub open_text : (l : ℕ) (ks : Trees) (x : List ℕ) → core (node l ks) ++ x ≡ 40 ∷ (decimal l ++ (cores ks ++ (41 ∷ x)))
open_text l ks x = ap (λ z. 40 ∷ z) (append_assoc (decimal l) (cores ks ++ 41 ∷ []) x ∙ ap (λ z. decimal l ++ z) (append_assoc (cores ks) (41 ∷ []) x))

pub lexeme_text : (k : LexKind) (t x : List ℕ) → core (lexeme k t) ++ x ≡ kind_byte k ∷ (decimal (length t) ++ (58 ∷ (t ++ x)))
lexeme_text k t x = ap (λ z. kind_byte k ∷ z) (append_assoc (decimal (length t)) (58 ∷ t) x)

node_read : (l m : ℕ) (ks ls : Trees) (x y : List ℕ) → ReadAll ks → HasCore (node l ks) → HasCore (node m ls) → core (node l ks) ++ x ≡ core (node m ls) ++ y → (node l ks ≡ node m ls) × (x ≡ y)
node_read l m ks ls x y all h g e =
    let q = tail_of 40 40 (decimal l ++ (cores ks ++ (41 ∷ x))) (decimal m ++ (cores ls ++ (41 ∷ y))) (sym (open_text l ks x) ∙ e ∙ open_text m ls y) in
    let a = h.0 in let b = g.0 in
    let n = decimal_same (2 ^ 32 - 1) l m _ _ (omega arith) (omega arith) (omega arith) (no_digit_cores ks x) (no_digit_cores ls y) q in
    let r = all ls x y h.1 g.1 n.1 in
    (let c = n.0 in let d = r.0 in cc, r.1)

lexeme_read : (j k : LexKind) (t u x y : List ℕ) → HasCore (lexeme j t) → HasCore (lexeme k u) → core (lexeme j t) ++ x ≡ core (lexeme k u) ++ y → (lexeme j t ≡ lexeme k u) × (x ≡ y)
lexeme_read j k t u x y h g e =
    let f = sym (lexeme_text j t x) ∙ e ∙ lexeme_text k u y in
    let q = tail_of (kind_byte j) (kind_byte k) (decimal (length t) ++ (58 ∷ (t ++ x))) (decimal (length u) ++ (58 ∷ (u ++ y))) f in
    let p = same_kind j k (head_of (kind_byte j) (kind_byte k) (decimal (length t) ++ (58 ∷ (t ++ x))) (decimal (length u) ++ (58 ∷ (u ++ y))) f) in
    let n = decimal_same 65535 (length t) (length u) _ _ (omega arith) h.1 g.1 (no_digit_byte 58 (t ++ x) (inr (omega arith))) (no_digit_byte 58 (u ++ y) (inr (omega arith))) q in
    let r = front_same t u x y n.0 (tail_of 58 58 (t ++ x) (u ++ y) n.1) in
    (let d = r.0 in cc, r.1)

hole_read : (v w : ℕ) (x y : List ℕ) → v < 64 → w < 64 → NoDigit x → NoDigit y → core (hole v) ++ x ≡ core (hole w) ++ y → (hole v ≡ hole w) × (x ≡ y)
hole_read v w x y h g n m e =
    let r = decimal_same 63 v w x y (omega arith) (omega arith) (omega arith) n m (tail_of 63 63 (decimal v ++ x) (decimal w ++ y) e) in
    (ap hole r.0, r.1)

heads_differ : (t u : Tree) (a b : ℕ) (p q x y : List ℕ) → core t ++ x ≡ a ∷ p → core u ++ y ≡ b ∷ q → (a ≡ b → ⊥) → core t ++ x ≡ core u ++ y → (t ≡ u) × (x ≡ y)
heads_differ t u a b p q x y e f n g = absurd (n (head_of a b p q (sym e ∙ g ∙ f)))

read_node : (l : ℕ) (ks : Trees) → ReadAll ks → Reads (node l ks)
read_node l ks all (node m ls) x y h g n p e = node_read l m ks ls x y all h g e
read_node l ks all (lexeme k t) x y h g n p e = heads_differ (node l ks) (lexeme k t) 40 (kind_byte k) _ _ x y (open_text l ks x) (lexeme_text k t y) (λ q. let r = kind_range k in omega arith) e
read_node l ks all (hole v) x y h g n p e = heads_differ (node l ks) (hole v) 40 63 _ (decimal v ++ y) x y (open_text l ks x) refl (λ q. omega arith) e

read_lexeme : (k : LexKind) (t : List ℕ) → Reads (lexeme k t)
read_lexeme k t (node m ls) x y h g n p e = heads_differ (lexeme k t) (node m ls) (kind_byte k) 40 _ _ x y (lexeme_text k t x) (open_text m ls y) (λ q. let r = kind_range k in omega arith) e
read_lexeme k t (lexeme j u) x y h g n p e = lexeme_read k j t u x y h g e
read_lexeme k t (hole v) x y h g n p e = heads_differ (lexeme k t) (hole v) (kind_byte k) 63 _ (decimal v ++ y) x y (lexeme_text k t x) refl (λ q. let r = kind_range k in omega arith) e

read_hole : (v : ℕ) → Reads (hole v)
read_hole v (node m ls) x y h g n p e = heads_differ (hole v) (node m ls) 63 40 (decimal v ++ x) _ x y refl (open_text m ls y) (λ q. omega arith) e
read_hole v (lexeme k t) x y h g n p e = heads_differ (hole v) (lexeme k t) 63 (kind_byte k) (decimal v ++ x) _ x y refl (lexeme_text k t y) (λ q. let r = kind_range k in omega arith) e
read_hole v (hole w) x y h g n p e = hole_read v w x y h g n p e

read_none : ReadAll none
read_none none x y h g e = (refl, tail_of 41 41 x y e)
read_none (u ▹ us) x y h g e = let q = head_of 41 32 x ((core u ++ cores us) ++ (41 ∷ y)) e in absurd (omega arith)

more_text : (t : Tree) (ts : Trees) (x : List ℕ) → cores (t ▹ ts) ++ (41 ∷ x) ≡ 32 ∷ (core t ++ (cores ts ++ (41 ∷ x)))
more_text t ts x = ap (λ z. 32 ∷ z) (append_assoc (core t) (cores ts) (41 ∷ x))

read_more : (t : Tree) (ts : Trees) → Reads t → ReadAll ts → ReadAll (t ▹ ts)
read_more t ts one all none x y h g e = let q = head_of 32 41 ((core t ++ cores ts) ++ (41 ∷ x)) y e in absurd (omega arith)
read_more t ts one all (u ▹ us) x y h g e =
    let q = tail_of 32 32 _ _ (sym (more_text t ts x) ∙ e ∙ more_text u us y) in
    let a = one u _ _ h.0 g.0 (no_digit_cores ts x) (no_digit_cores us y) q in
    let b = all us x y h.1 g.1 a.1 in
    (let c = a.0 in let d = b.0 in cc, b.1)

mutual
  reads : (t : Tree) → Reads t
  reads (node l ks) = λ u x y h g n m e. read_node l ks (read_all ks) u x y h g n m e
  reads (lexeme k t) = λ u x y h g n m e. read_lexeme k t u x y h g n m e
  reads (hole v) = λ u x y h g n m e. read_hole v u x y h g n m e

  read_all : (ts : Trees) → ReadAll ts
  read_all none = λ us x y h g e. read_none us x y h g e
  read_all (t ▹ ts) = λ us x y h g e. read_more t ts (reads t) (read_all ts) us x y h g e

pub one_reading : (t u : Tree) (x y : List ℕ) → HasCore t → HasCore u → NoDigit x → NoDigit y → core t ++ x ≡ core u ++ y → (t ≡ u) × (x ≡ y)
one_reading t = reads t

-- the longer of two texts goes on behind the shorter
split : (a b x y : List ℕ) → a ++ x ≡ b ++ y → length b < length a → (c : ℕ) × (r : List ℕ) × (a ≡ b ++ (c ∷ r)) × (y ≡ (c ∷ r) ++ x)
split [] b x y e h = absurd (omega arith)
split (c ∷ a) [] x y e h = (c, a, refl, sym e)
split (c ∷ a) (d ∷ b) x y e h =
    let q = split a b x y (tail_of c d (a ++ x) (b ++ y) e) (omega arith) in
    let p = head_of c d (a ++ x) (b ++ y) e in
    (q.0, q.1, (let g = q.2 in cc), q.3)

no_digit_front : (c : ℕ) (m r : List ℕ) → NoDigit ((c ∷ m) ++ r) → NoDigit (c ∷ m)
no_digit_front c m r n d z h e = n d (z ++ r) h (ap (λ x. x ++ r) e)

no_digit_end : NoDigit []
no_digit_end d z h e = cc

not_longer : (t u : Tree) (rest r : List ℕ) → HasCore t → HasCore u → NoDigit rest → core t ++ rest ≡ core u ++ r → length (core t) < length (core u) → ⊥
not_longer t u rest r h g n e l =
    let q = split (core u) (core t) r rest (sym e) l in
    let w = one_reading t u (q.0 ∷ q.1) [] h g (no_digit_front q.0 q.1 r (subst NoDigit q.3 n)) no_digit_end (sym q.2 ∙ sym (append-nil (core u))) in
    let f : q.0 ∷ q.1 ≡ [] = w.1 in cc

either : (a b : ℕ) → (a ≤ b) ⊎ (b < a)
either a b = grind arith

longest_want : (t : Tree) (rest : List ℕ) → HasCore t → NoDigit rest → (text r : List ℕ) → Want 0 text → core t ++ rest ≡ text ++ r → length text ≤ length (core t)
longest_want t rest h n text r w q =
    let e : text ≡ core w.0 = w.3 ∙ ap (λ x. core w.0 ++ x) w.4 ∙ append-nil (core w.0) in
    let b = not_longer t w.0 rest r h w.1 n (q ∙ ap (λ x. x ++ r) e) in
    let l : length text ≡ length (core w.0) = ap length e in
    ⊎_elim (λ z. omega arith) (λ z. absurd (b z)) (either (length (core w.0)) (length (core t)))

pub read_again : (t : Tree) (rest : List ℕ) → HasCore t → NoDigit rest → IsLongest (Want 0) (core t ++ rest) (length (core t))
read_again t rest h n = record {
  within = omega (arith, length-append (core t) rest);
  text = (t, h, [], take-append_seam (core t) rest ∙ sym (append-nil (core t)), refl);
  longest = λ text r w q. longest_want t rest h n text r w q;
}
