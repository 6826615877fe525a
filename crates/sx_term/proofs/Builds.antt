-- Building the term of a core text.
use Rattle.std.proofs.Common.{◌≡◌, ℕ, ◌+◌, ◌^◌, ◌-◌, ◌<◌, ◌≤◌, List, [], ◌∷◌, ◌++◌, map, length, length-append, length-drop, take, drop, get_or, Vec, refl, ap, ◌∙◌, sym, subst, append_assoc, append-nil, decimal, IsUtf8, arith}
use Rattle.std.proofs.lemmas.List.{map-append, drop-drop}
use Rattle.std.specs.declared.alloc.Global.{Global}
use Rattle.sx_term.specs.declared.term.Term.{Term, Node}
use Rattle.sx_term.specs.declared.lex_kind.LexKind.{LexKind}
use Rattle.sx_term.specs.declared.lex_kind.LexKind.TheVariants.{Id, Num as NumKind, Str}
use Rattle.std.proofs.Math.Seq.{take-append_seam, drop-append_seam}
use Rattle.sx_term.specs.Tree.{Tree, Trees, node, lexeme, hole, none, ◌▹◌, forest, depth_of, greatest_depth}
use Rattle.sx_term.specs.Term.{tree}
use Rattle.sx_term.specs.Core.{core, cores, kind_byte, HasCore, HaveCore, NoDigit}
use Rattle.sx_term.specs.Reading.{IsNumber, IsNoNumber, Starts, IsBuilt, Want}
use Rattle.sx_term.proofs.Kids.{trees, tree-at_node}
use Rattle.sx_term.proofs.Languages.{head_of, tail_of}
use Rattle.sx_term.proofs.Leads.{byte_at}
use Rattle.sx_term.proofs.Grammar.{kind_range}
use Rattle.sx_term.proofs.Numbers.{Num, number_is, no_number}
use Rattle.sx_term.proofs.OneReading.{one_reading, open_text, lexeme_text, no_digit_cores}

-- the rest of a node: more kids, and its close
abbrev pub Remains : List ℕ → Type 0
Remains s = (ks : Trees) × HaveCore ks × (greatest_depth ks ≤ 999) × (y : List ℕ) × (s ≡ cores ks ++ (41 ∷ y)) × NoDigit y

-- which byte stands first
pub starts_some : (s : List ℕ) (t : Tree) → Starts s t → 0 < length s
starts_some s (node l ks) h = omega (arith, ap length h.2)
starts_some s (lexeme k x) h = omega (arith, ap length h.2)
starts_some s (hole v) h = omega (arith, ap length h.2)

-- a node
node_parts : (b : ℕ) (z : List ℕ) (t : Tree) → b ≡ 40 → depth_of t ≤ 1000 → Starts (b ∷ z) t → (l : ℕ) × (ks : Trees) × (l < 2 ^ 32) × HaveCore ks × (greatest_depth ks ≤ 999) × (y : List ℕ) × (z ≡ decimal l ++ (cores ks ++ (41 ∷ y))) × NoDigit y
node_parts b z (node l ks) e d h = (l, ks, h.0.0, h.0.1, omega arith, h.1, tail_of b 40 z _ (h.2 ∙ open_text l ks h.1), h.3)
node_parts b z (lexeme k x) e d h = let q = head_of b (kind_byte k) z _ (h.2 ∙ lexeme_text k x h.1) in let r = kind_range k in absurd (omega arith)
node_parts b z (hole v) e d h = let q = head_of b 63 z (decimal v ++ h.1) h.2 in absurd (omega arith)

hole_parts : (b : ℕ) (z : List ℕ) (t : Tree) → b ≡ 63 → Starts (b ∷ z) t → (v : ℕ) × (v < 64) × (y : List ℕ) × (z ≡ decimal v ++ y) × NoDigit y
hole_parts b z (node l ks) e h = let q = head_of b 40 z _ (h.2 ∙ open_text l ks h.1) in absurd (omega arith)
hole_parts b z (lexeme k x) e h = let q = head_of b (kind_byte k) z _ (h.2 ∙ lexeme_text k x h.1) in let r = kind_range k in absurd (omega arith)
hole_parts b z (hole v) e h = (v, h.0, h.1, tail_of b 63 z (decimal v ++ h.1) h.2, h.3)

pub lexeme_parts : (s : List ℕ) (b : ℕ) (z : List ℕ) (t : Tree) → s ≡ b ∷ z → (b ≡ 40 → ⊥) → (b ≡ 63 → ⊥) → Starts s t → (k : LexKind) × (x : List ℕ) × Starts s (lexeme k x)
lexeme_parts s b z (node l ks) e n m h = absurd (n (head_of b 40 z _ (sym e ∙ h.2 ∙ open_text l ks h.1)))
lexeme_parts s b z (lexeme k x) e n m h = (k, x, h)
lexeme_parts s b z (hole v) e n m h = absurd (m (head_of b 63 z (decimal v ++ h.1) (sym e ∙ h.2)))

pub number_there : (least most : ℕ) (s y : List ℕ) (u : ℕ) → most < 2 ^ 64 → least ≤ 1 → least ≤ u → u ≤ most → NoDigit y → s ≡ decimal u ++ y → IsNoNumber s least → ⊥
number_there least most s y u m g l h n e r =
    let w : Num least most (λ w z. (w ≡ u) × (z ≡ y)) s = (u, l, h, y, e, (refl, refl)) in
    (no_number least most m (λ w z. (w ≡ u) × (z ≡ y)) (λ w d z k c. n d z k (sym c.1)) s g r (s, w)).none s [] w (sym (append-nil s))

-- what stands at a place
pub starts_at : (bs : List ℕ) (at : ℕ) (t : Tree) → at < length bs → Starts (drop at bs) t → Starts (get_or bs at 0 ∷ drop (at + 1) bs) t
starts_at bs at t h s = subst (λ (x : List ℕ). Starts x t) (byte_at bs at (get_or bs at 0) h refl) s

pub starts_past : (bs : List ℕ) (at : ℕ) (t : Tree) → length bs ≤ at → Starts (drop at bs) t → ⊥
starts_past bs at t h s = let q = starts_some (drop at bs) t s in omega (arith, length-drop at bs)

pub hole_there : (bs : List ℕ) (at : ℕ) (t : Tree) → at < length bs → get_or bs at 0 ≡ 63 → Starts (drop at bs) t → IsNoNumber (drop (at + 1) bs) 0 → ⊥
hole_there bs at t h e s n =
    let p = hole_parts (get_or bs at 0) (drop (at + 1) bs) t e (starts_at bs at t h s) in
    number_there 0 63 (drop (at + 1) bs) p.2 p.0 (omega arith) (omega arith) (omega arith) (let q = p.1 in omega arith) p.4 p.3 n

pub hole_built : (bs : List ℕ) (at next v : ℕ) (t : Tree) → at < length bs → get_or bs at 0 ≡ 63 → Starts (drop at bs) t → at + 1 < next → next ≤ length bs → IsNumber (drop (at + 1) bs) 0 63 v (drop next bs) → IsBuilt bs at (hole v) next
hole_built bs at next v t h e s l m n =
    let p = hole_parts (get_or bs at 0) (drop (at + 1) bs) t e (starts_at bs at t h s) in
    let q = number_is 0 63 (drop (at + 1) bs) (drop next bs) p.2 v p.0 (omega arith) (omega arith) (let r = p.1 in omega arith) p.4 p.3 n in
    record {
      past = omega arith;
      within = m;
      has_core = let u = n.upper in omega arith;
      text = byte_at bs at (get_or bs at 0) h refl ∙ ap (λ x. x ∷ drop (at + 1) bs) e ∙ ap (λ x. 63 ∷ x) n.spelled;
      no_digit = subst NoDigit (sym q.1) p.4;
    }

pub lexeme_starts : (bs : List ℕ) (at : ℕ) (t : Tree) → at < length bs → (get_or bs at 0 ≡ 40 → ⊥) → (get_or bs at 0 ≡ 63 → ⊥) → Starts (drop at bs) t → (k : LexKind) × (x : List ℕ) × Starts (drop at bs) (lexeme k x)
lexeme_starts bs at t h m n s = lexeme_parts (drop at bs) (get_or bs at 0) (drop (at + 1) bs) t (byte_at bs at (get_or bs at 0) h refl) m n s

pub node_there : (bs : List ℕ) (at : ℕ) (t : Tree) → at < length bs → get_or bs at 0 ≡ 40 → depth_of t ≤ 1000 → Starts (drop at bs) t → IsNoNumber (drop (at + 1) bs) 0 → ⊥
node_there bs at t h e d s n =
    let p = node_parts (get_or bs at 0) (drop (at + 1) bs) t e d (starts_at bs at t h s) in
    number_there 0 (2 ^ 32 - 1) (drop (at + 1) bs) (cores p.1 ++ (41 ∷ p.5)) p.0 (omega arith) (omega arith) (omega arith) (let q = p.2 in omega arith) (no_digit_cores p.1 p.5) p.6 n

pub node_remains : (bs : List ℕ) (at next v : ℕ) (t : Tree) → at < length bs → get_or bs at 0 ≡ 40 → depth_of t ≤ 1000 → Starts (drop at bs) t → IsNumber (drop (at + 1) bs) 0 (2 ^ 32 - 1) v (drop next bs) → Remains (drop next bs)
node_remains bs at next v t h e d s n =
    let p = node_parts (get_or bs at 0) (drop (at + 1) bs) t e d (starts_at bs at t h s) in
    let q = number_is 0 (2 ^ 32 - 1) (drop (at + 1) bs) (drop next bs) (cores p.1 ++ (41 ∷ p.5)) v p.0 (omega arith) (omega arith) (let r = p.2 in omega arith) (no_digit_cores p.1 p.5) p.6 n in
    (p.1, p.3, p.4, p.5, q.1, p.7)

pub node_done : (bs : List ℕ) (at next v : ℕ) (ks : List Term) → at < length bs → get_or bs at 0 ≡ 40 → IsNumber (drop (at + 1) bs) 0 (2 ^ 32 - 1) v (drop next bs) → ks ≡ [] → drop at bs ≡ 40 ∷ (decimal v ++ (cores (trees ks) ++ drop next bs))
node_done bs at next v ks h e n z =
    byte_at bs at (get_or bs at 0) h refl ∙ ap (λ x. x ∷ drop (at + 1) bs) e ∙ ap (λ x. 40 ∷ x) n.spelled ∙ ap (λ x. 40 ∷ (decimal v ++ (cores (trees x) ++ drop next bs))) (sym z)

-- one more kid
kid_of : (b : ℕ) (z : List ℕ) (ks : Trees) (y : List ℕ) → b ≡ 32 → HaveCore ks → greatest_depth ks ≤ 999 → b ∷ z ≡ cores ks ++ (41 ∷ y) → NoDigit y → (t : Tree) × (ts : Trees) × HasCore t × HaveCore ts × (depth_of t ≤ 1000) × (greatest_depth ts ≤ 999) × (z ≡ core t ++ (cores ts ++ (41 ∷ y)))
kid_of b z none y e h d q n = let p = head_of b 41 z y q in absurd (omega arith)
kid_of b z (t ▹ ts) y e h d q n =
    (t, ts, h.0, h.1, omega arith, omega arith, tail_of b 32 z ((core t ++ cores ts) ++ (41 ∷ y)) q ∙ append_assoc (core t) (cores ts) (41 ∷ y))

pub kid_starts : (bs : List ℕ) (next : ℕ) → next < length bs → get_or bs next 0 ≡ 32 → Remains (drop next bs) → (t : Tree) × (depth_of t ≤ 1000) × Starts (drop (next + 1) bs) t
kid_starts bs next h e r =
    let k = kid_of (get_or bs next 0) (drop (next + 1) bs) r.0 r.3 e r.1 r.2 (sym (byte_at bs next (get_or bs next 0) h refl) ∙ r.4) r.5 in
    (k.0, k.4, (k.2, cores k.1 ++ (41 ∷ r.3), k.6, no_digit_cores k.1 r.3))

pub kid_remains : (bs : List ℕ) (next after : ℕ) (u : Tree) → next < length bs → get_or bs next 0 ≡ 32 → Remains (drop next bs) → IsBuilt bs (next + 1) u after → Remains (drop after bs)
kid_remains bs next after u h e r b =
    let k = kid_of (get_or bs next 0) (drop (next + 1) bs) r.0 r.3 e r.1 r.2 (sym (byte_at bs next (get_or bs next 0) h refl) ∙ r.4) r.5 in
    let o = one_reading u k.0 (drop after bs) (cores k.1 ++ (41 ∷ r.3)) b.has_core k.2 b.no_digit (no_digit_cores k.1 r.3) (sym b.text ∙ k.6) in
    (k.1, k.3, k.5, r.3, o.1, r.5)

cores_push : (xs : List Tree) (x : Tree) (r : List ℕ) → cores (forest (xs ++ x ∷ [])) ++ r ≡ cores (forest xs) ++ (32 ∷ (core x ++ r))
cores_push [] x r = ap (λ z. 32 ∷ z) (append_assoc (core x) [] r)
cores_push (y ∷ xs) x r =
    ap (λ z. 32 ∷ z) (append_assoc (core y) (cores (forest (xs ++ x ∷ []))) r ∙ ap (λ z. core y ++ z) (cores_push xs x r) ∙ sym (append_assoc (core y) (cores (forest xs)) (32 ∷ (core x ++ r))))

have_push : (xs : List Tree) (x : Tree) → HaveCore (forest xs) → HasCore x → HaveCore (forest (xs ++ x ∷ []))
have_push [] x h g = (g, tt)
have_push (y ∷ xs) x h g = (h.0, have_push xs x h.1 g)

pub trees_push : (ks ls : List Term) (k : Term) → ls ≡ ks ++ k ∷ [] → HaveCore (trees ks) → HasCore (tree k) → HaveCore (trees ls)
trees_push ks ls k e h g = subst (λ (x : List Tree). HaveCore (forest x)) (sym (ap (map tree) e ∙ map-append tree ks (k ∷ []))) (have_push (map tree ks) (tree k) h g)

pub kid_done : (bs : List ℕ) (at next after v : ℕ) (ks ls : List Term) (k : Term) → next < length bs → get_or bs next 0 ≡ 32 → IsBuilt bs (next + 1) (tree k) after → ls ≡ ks ++ k ∷ [] → drop at bs ≡ 40 ∷ (decimal v ++ (cores (trees ks) ++ drop next bs)) → drop at bs ≡ 40 ∷ (decimal v ++ (cores (trees ls) ++ drop after bs))
kid_done bs at next after v ks ls k h e b q d =
    let p : drop next bs ≡ 32 ∷ (core (tree k) ++ drop after bs) = byte_at bs next (get_or bs next 0) h refl ∙ ap (λ x. x ∷ drop (next + 1) bs) e ∙ ap (λ x. 32 ∷ x) b.text in
    let r : cores (trees ls) ++ drop after bs ≡ cores (trees ks) ++ (32 ∷ (core (tree k) ++ drop after bs)) = ap (λ x. cores (forest x) ++ drop after bs) (ap (map tree) q ∙ map-append tree ks (k ∷ [])) ∙ cores_push (map tree ks) (tree k) (drop after bs) in
    d ∙ ap (λ x. 40 ∷ (decimal v ++ (cores (trees ks) ++ x))) p ∙ ap (λ x. 40 ∷ (decimal v ++ x)) (sym r)

-- the close
close_of : (s : List ℕ) (b : ℕ) (z : List ℕ) (ks : Trees) (y : List ℕ) → s ≡ b ∷ z → (b ≡ 32 → ⊥) → s ≡ cores ks ++ (41 ∷ y) → (b ≡ 41) × (z ≡ y)
close_of s b z none y e n q = (head_of b 41 z y (sym e ∙ q), tail_of b 41 z y (sym e ∙ q))
close_of s b z (t ▹ ts) y e n q = absurd (n (head_of b 32 z ((core t ++ cores ts) ++ (41 ∷ y)) (sym e ∙ q)))

pub remains_some : (bs : List ℕ) (next : ℕ) → length bs ≤ next → Remains (drop next bs) → ⊥
remains_some bs next h r = omega (arith, ap length r.4, length-append (cores r.0) (41 ∷ r.3), length-drop next bs)

pub node_built : (bs : List ℕ) (at next v : ℕ) (kids : Vec Term Global) → at < next → next < length bs → (get_or bs next 0 ≡ 32 → ⊥) → v < 2 ^ 32 → Remains (drop next bs) → drop at bs ≡ 40 ∷ (decimal v ++ (cores (trees kids.items) ++ drop next bs)) → HaveCore (trees kids.items) → IsBuilt bs at (tree (Node v kids)) (next + 1)
node_built bs at next v kids h l n u r d k =
    let c = close_of (drop next bs) (get_or bs next 0) (drop (next + 1) bs) r.0 r.3 (byte_at bs next (get_or bs next 0) l refl) n r.4 in
    let p : drop next bs ≡ 41 ∷ drop (next + 1) bs = byte_at bs next (get_or bs next 0) l refl ∙ ap (λ x. x ∷ drop (next + 1) bs) c.0 in
    let t = tree-at_node (Node v kids) v kids refl in
    record {
      past = omega arith;
      within = omega arith;
      has_core = subst HasCore (sym t) (u, k);
      text = d ∙ ap (λ x. 40 ∷ (decimal v ++ (cores (trees kids.items) ++ x))) p ∙ sym (open_text v (trees kids.items) (drop (next + 1) bs)) ∙ ap (λ x. core x ++ drop (next + 1) bs) (sym t);
      no_digit = subst NoDigit (sym c.1) r.5;
    }

pub have_none : (ks : List Term) → ks ≡ [] → HaveCore (trees ks)
have_none ks e = subst (λ (x : List Term). HaveCore (trees x)) (sym e) tt

-- a lexeme
lexeme_at : (bs : List ℕ) (at : ℕ) (k : LexKind) (x : List ℕ) → at < length bs → Starts (drop at bs) (lexeme k x) → (get_or bs at 0 ≡ kind_byte k) × ((y : List ℕ) × (drop (at + 1) bs ≡ decimal (length x) ++ (58 ∷ (x ++ y))) × NoDigit y)
lexeme_at bs at k x h s =
    let r = starts_at bs at (lexeme k x) h s in
    let e = r.2 ∙ lexeme_text k x r.1 in
    (head_of (get_or bs at 0) (kind_byte k) (drop (at + 1) bs) _ e, (r.1, tail_of (get_or bs at 0) (kind_byte k) (drop (at + 1) bs) _ e, r.3))

colon_no_digit : (z : List ℕ) → NoDigit (58 ∷ z)
colon_no_digit z d r h e = let q = head_of 58 (48 + d) z r e in omega arith

pub lexeme_there : (bs : List ℕ) (at : ℕ) (k : LexKind) (x : List ℕ) → at < length bs → Starts (drop at bs) (lexeme k x) → IsNoNumber (drop (at + 1) bs) 1 → ⊥
lexeme_there bs at k x h s n =
    let p = lexeme_at bs at k x h s in
    let c = s.0 in
    number_there 1 65535 (drop (at + 1) bs) (58 ∷ (x ++ p.1.0)) (length x) (omega arith) (omega arith) c.0 c.1 (colon_no_digit (x ++ p.1.0)) p.1.1 n

-- the number of bytes, and what stands behind it
lexeme_rest : (bs : List ℕ) (at colon v : ℕ) (k : LexKind) (x : List ℕ) → at < length bs → Starts (drop at bs) (lexeme k x) → IsNumber (drop (at + 1) bs) 1 65535 v (drop colon bs) → (v ≡ length x) × ((y : List ℕ) × (drop colon bs ≡ 58 ∷ (x ++ y)) × NoDigit y)
lexeme_rest bs at colon v k x h s n =
    let p = lexeme_at bs at k x h s in
    let c = s.0 in
    let q = number_is 1 65535 (drop (at + 1) bs) (drop colon bs) (58 ∷ (x ++ p.1.0)) v (length x) (omega arith) c.0 c.1 (colon_no_digit (x ++ p.1.0)) p.1.1 n in
    (q.0, (p.1.0, q.1, p.1.2))

pub lexeme_room : (bs : List ℕ) (at colon v : ℕ) (k : LexKind) (x : List ℕ) → at < length bs → Starts (drop at bs) (lexeme k x) → IsNumber (drop (at + 1) bs) 1 65535 v (drop colon bs) → colon + 1 + v ≤ length bs
lexeme_room bs at colon v k x h s n =
    let r = lexeme_rest bs at colon v k x h s n in
    let e = r.0 in
    omega (arith, ap length r.1.1, length-append x r.1.0, length-drop colon bs)

after_colon : (bs : List ℕ) (colon : ℕ) (z : List ℕ) → drop colon bs ≡ 58 ∷ z → drop (colon + 1) bs ≡ z
after_colon bs colon z e = sym (drop-drop 1 colon bs) ∙ ap (drop 1) e

-- the bytes behind the colon are UTF-8
pub lexeme_utf8 : (bs : List ℕ) (at colon v : ℕ) (k : LexKind) (x : List ℕ) → at < length bs → Starts (drop at bs) (lexeme k x) → IsNumber (drop (at + 1) bs) 1 65535 v (drop colon bs) → IsUtf8 (take v (drop (colon + 1) bs))
lexeme_utf8 bs at colon v k x h s n =
    let r = lexeme_rest bs at colon v k x h s n in
    let e : take v (drop (colon + 1) bs) ≡ x = ap (take v) (after_colon bs colon (x ++ r.1.0) r.1.1) ∙ ap (λ w. take w (x ++ r.1.0)) r.0 ∙ take-append_seam x r.1.0 in
    subst IsUtf8 (sym e) s.0.2

pub lexeme_built : (bs : List ℕ) (at colon v : ℕ) (j k : LexKind) (x made : List ℕ) → at < length bs → Starts (drop at bs) (lexeme k x) → at + 1 < colon → IsNumber (drop (at + 1) bs) 1 65535 v (drop colon bs) → (get_or bs at 0 ≡ kind_byte k → j ≡ k) → made ≡ take v (drop (colon + 1) bs) → IsBuilt bs at (lexeme j made) (colon + 1 + v)
lexeme_built bs at colon v j k x made h s l n f e =
    let p = lexeme_at bs at k x h s in
    let r = lexeme_rest bs at colon v k x h s n in
    let room = lexeme_room bs at colon v k x h s n in
    let z = after_colon bs colon (x ++ r.1.0) r.1.1 in
    let m : made ≡ x = e ∙ ap (take v) z ∙ ap (λ w. take w (x ++ r.1.0)) r.0 ∙ take-append_seam x r.1.0 in
    let y : drop (colon + 1 + v) bs ≡ r.1.0 = sym (drop-drop v (colon + 1) bs) ∙ ap (drop v) z ∙ ap (λ w. drop w (x ++ r.1.0)) r.0 ∙ drop-append_seam x r.1.0 in
    let g : lexeme j made ≡ lexeme k x = (let a = f p.0 in cc) in
    let u : drop at bs ≡ core (lexeme k x) ++ r.1.0 = byte_at bs at (get_or bs at 0) h refl ∙ ap (λ w. w ∷ drop (at + 1) bs) p.0 ∙ ap (λ w. kind_byte k ∷ w) (n.spelled ∙ ap (λ w. decimal v ++ w) r.1.1 ∙ ap (λ w. decimal w ++ (58 ∷ (x ++ r.1.0))) r.0) ∙ sym (lexeme_text k x r.1.0) in
    record {
      past = omega arith;
      within = room;
      has_core = subst HasCore (sym g) s.0;
      text = u ∙ ap (λ w. core (lexeme k x) ++ w) (sym y) ∙ ap (λ w. core w ++ drop (colon + 1 + v) bs) (sym g);
      no_digit = subst NoDigit (sym y) r.1.2;
    }

pub kind_id : (k : LexKind) (b : ℕ) → b ≡ 105 → b ≡ kind_byte k → Id ≡ k
kind_id Id b e f = refl
kind_id NumKind b e f = absurd (omega arith)
kind_id Str b e f = absurd (omega arith)

pub kind_num : (k : LexKind) (b : ℕ) → b ≡ 110 → b ≡ kind_byte k → NumKind ≡ k
kind_num Id b e f = absurd (omega arith)
kind_num NumKind b e f = refl
kind_num Str b e f = absurd (omega arith)

pub kind_str : (k : LexKind) (b : ℕ) → (b ≡ 105 → ⊥) → (b ≡ 110 → ⊥) → b ≡ kind_byte k → Str ≡ k
kind_str Id b m n f = absurd (m f)
kind_str NumKind b m n f = absurd (n f)
kind_str Str b m n f = refl

nil_no_digit : NoDigit []
nil_no_digit d z h e = cc

-- the term that is built of a whole text
pub whole_built : (text : List ℕ) (u : Tree) (to : ℕ) (whole : Want 0 text) → IsBuilt text 0 u to → (text ≡ core u) × (depth_of u ≡ depth_of whole.0)
whole_built text u to w b =
    let e : text ≡ core w.0 = w.3 ∙ ap (λ x. core w.0 ++ x) w.4 ∙ append-nil (core w.0) in
    let o = one_reading u w.0 (drop to text) [] b.has_core w.1 b.no_digit nil_no_digit (sym b.text ∙ e ∙ sym (append-nil (core w.0))) in
    (e ∙ ap core (sym o.0), ap depth_of o.0)

pub whole_text : (text : List ℕ) (whole : Want 0 text) → text ≡ core whole.0
whole_text text w = w.3 ∙ ap (λ x. core w.0 ++ x) w.4 ∙ append-nil (core w.0)
