-- The bodies of rules one after the other.
use Rattle.std.proofs.Common.{◌≡◌, ℕ, zero, suc, ◌+◌, ◌<◌, ◌≤◌, List, [], ◌∷◌, map, drop, length, get_or, Option, Some, None, refl, sym, ap, subst, arith}
use Rattle.std.specs.Prelude.{option_map, IfSome}
use Rattle.std.specs.List.{AllByRecursion}
use Rattle.sx_term.specs.declared.term.Term.{Term}
use Rattle.sx_term.specs.Term.{tree}
use Rattle.sx_term.specs.Tree.{Tree, depth_of}
use Rattle.sx_term.specs.Sorts.{Shape}
use Rattle.sx_rules.specs.declared.rule.Rule.{Rule}
use Rattle.sx_rules.specs.Views.{FormData, NamedRule, named}
use Rattle.sx_outline.specs.declared.rule_lines.RuleLines.{RuleLines}
use Rattle.sx_outline.specs.Stages.{RuleData, rule_data}
use Rattle.sx_extension.specs.declared.body_defect.BodyDefect.{BodyDefect}
use Rattle.sx_extension.specs.Bodies.{IsReadBody, IsBodied, BodyHasDefect, subject_of, AreReadBodies, AreBodied, IsFirstDefect}
use Rattle.sx_extension.proofs.AddedBodies.{map_drop, map_drop_all}

abbrev Bodies : Type 0
Bodies = List (Option Term)

abbrev terms : Bodies → List (Option Tree)
terms bs = map (option_map tree) bs

-- there is a rule and a body for each of the lines
as_many : (forms : List FormData) (ls : List RuleLines) (rs : List Rule) (bs : Bodies) → AreReadBodies forms (map rule_data ls) (map named rs) (terms bs) → (length rs ≡ length ls) × (length bs ≡ length ls)
as_many forms [] [] [] h = (refl, refl)
as_many forms [] [] (b ∷ bs) h = absurd h
as_many forms [] (r ∷ rs) [] h = absurd h
as_many forms [] (r ∷ rs) (b ∷ bs) h = absurd h
as_many forms (l ∷ ls) [] [] h = absurd h
as_many forms (l ∷ ls) [] (b ∷ bs) h = absurd h
as_many forms (l ∷ ls) (r ∷ rs) [] h = absurd h
as_many forms (l ∷ ls) (r ∷ rs) (b ∷ bs) h = let m = as_many forms ls rs bs h.1 in (ap suc m.0, ap suc m.1)

pub rule_there : (forms : List FormData) (ls : List RuleLines) (rs : List Rule) (bs : Bodies) (i : ℕ) → AreReadBodies forms (map rule_data ls) (map named rs) (terms bs) → i < length ls → i < length rs
rule_there forms ls rs bs i h l = let m = (as_many forms ls rs bs h).0 in omega (arith, l, m)

pub body_there : (forms : List FormData) (ls : List RuleLines) (rs : List Rule) (bs : Bodies) (i : ℕ) → AreReadBodies forms (map rule_data ls) (map named rs) (terms bs) → i < length ls → i < length bs
body_there forms ls rs bs i h l = let m = (as_many forms ls rs bs h).1 in omega (arith, l, m)

pub read_at : (forms : List FormData) (ls : List RuleLines) (rs : List Rule) (bs : Bodies) (i : ℕ) (l : RuleLines) (r : Rule) (b : Option Term) → AreReadBodies forms (map rule_data ls) (map named rs) (terms bs) →
    i < length ls → l ≡ get_or ls i l → r ≡ get_or rs i r → b ≡ get_or bs i b → IsReadBody (subject_of forms (named r)) (rule_data l).body (option_map tree b)
read_at forms [] rs bs i l r b h low x y z = absurd (omega (arith, low))
read_at forms (k ∷ ls) [] [] i l r b h low x y z = absurd h
read_at forms (k ∷ ls) [] (c ∷ bs) i l r b h low x y z = absurd h
read_at forms (k ∷ ls) (q ∷ rs) [] i l r b h low x y z = absurd h
read_at forms (k ∷ ls) (q ∷ rs) (c ∷ bs) zero l r b h low x y z =
    subst (λ (o : Option Term). IsReadBody (subject_of forms (named r)) (rule_data l).body (option_map tree o)) (sym z)
    (subst (λ (s : Rule). IsReadBody (subject_of forms (named s)) (rule_data l).body (option_map tree c)) (sym y)
    (subst (λ (m : RuleLines). IsReadBody (subject_of forms (named q)) (rule_data m).body (option_map tree c)) (sym x) h.0))
read_at forms (k ∷ ls) (q ∷ rs) (c ∷ bs) (suc i) l r b h low x y z = read_at forms ls rs bs i l r b h.1 (omega (arith, low)) x y z

pub shallow_at : (bs : Bodies) (i : ℕ) (b : Option Term) → AllByRecursion (λ o. IfSome o (λ t. depth_of t ≤ 1000)) (terms bs) → i < length bs → b ≡ get_or bs i b → IfSome (option_map tree b) (λ t. depth_of t ≤ 1000)
shallow_at [] i b h l e = absurd (omega (arith, l))
shallow_at (c ∷ bs) zero b h l e = subst (λ (o : Option Term). IfSome (option_map tree o) (λ t. depth_of t ≤ 1000)) (sym e) h.0
shallow_at (c ∷ bs) (suc i) b h l e = shallow_at bs i b h.1 (omega (arith, l)) e

pub of_tree : (b : Option Term) → IfSome (option_map tree b) (λ t. depth_of t ≤ 1000) → IfSome b (λ t. depth_of (tree t) ≤ 1000)
of_tree None h = tt
of_tree (Some t) h = h

module _ (forms : List FormData) (shapes : List Shape) (first : ℕ) (ls : List RuleLines) (rs : List Rule) (bs : Bodies) where
  -- where those from this rule on are as they should be, all are
  abbrev pub BodiedOn : ℕ → Type 0
  BodiedOn i = AreBodied forms shapes first (map rule_data (drop i ls)) (map named (drop i rs)) (terms (drop i bs)) → AreBodied forms shapes first (map rule_data ls) (map named rs) (terms bs)

  -- the first defect of those from this rule on is the first of all
  abbrev pub DefectOn : ℕ → Type 0
  DefectOn i = (n : ℕ) (d : BodyDefect) → IsFirstDefect forms shapes first (map rule_data (drop i ls)) (map named (drop i rs)) (terms (drop i bs)) n d → IsFirstDefect forms shapes first (map rule_data ls) (map named rs) (terms bs) (i + n) d

  module _ (i : ℕ) (l : RuleLines) (r : Rule) (b : Option Term) (low : i < length ls) (rule : i < length rs) (body : i < length bs) (x : l ≡ get_or ls i l) (y : r ≡ get_or rs i r) (z : b ≡ get_or bs i b) where
    here : (P : List RuleData → List NamedRule → List (Option Tree) → Type 0) → P (rule_data l ∷ map rule_data (drop (i + 1) ls)) (named r ∷ map named (drop (i + 1) rs)) (option_map tree b ∷ terms (drop (i + 1) bs)) →
        P (map rule_data (drop i ls)) (map named (drop i rs)) (terms (drop i bs))
    here P h =
        subst (λ (us : List (Option Tree)). P (map rule_data (drop i ls)) (map named (drop i rs)) us) (sym (map_drop (option_map tree) bs i b body z))
        (subst (λ (qs : List NamedRule). P (map rule_data (drop i ls)) qs (option_map tree b ∷ terms (drop (i + 1) bs))) (sym (map_drop named rs i r rule y))
        (subst (λ (ms : List RuleData). P ms (named r ∷ map named (drop (i + 1) rs)) (option_map tree b ∷ terms (drop (i + 1) bs))) (sym (map_drop rule_data ls i l low x)) h))

    pub bodied_on : IsBodied shapes first (subject_of forms (named r)) (rule_data l).body (option_map tree b) → BodiedOn i → BodiedOn (i + 1)
    bodied_on g k h = k (here (λ m q u. AreBodied forms shapes first m q u) (g, h))

    pub defect_on : IsBodied shapes first (subject_of forms (named r)) (rule_data l).body (option_map tree b) → DefectOn i → DefectOn (i + 1)
    defect_on g k n d h =
        let e : i + suc n ≡ (i + 1) + n = omega arith in
        subst (λ (j : ℕ). IsFirstDefect forms shapes first (map rule_data ls) (map named rs) (terms bs) j d) e
        (k (suc n) d (here (λ m q u. IsFirstDefect forms shapes first m q u (suc n) d) (g, h)))

    pub defect_here : (d : BodyDefect) → BodyHasDefect shapes first (subject_of forms (named r)) (rule_data l).body (option_map tree b) d → DefectOn i → IsFirstDefect forms shapes first (map rule_data ls) (map named rs) (terms bs) i d
    defect_here d g k =
        let e : i + 0 ≡ i = omega arith in
        subst (λ (j : ℕ). IsFirstDefect forms shapes first (map rule_data ls) (map named rs) (terms bs) j d) e
        (k 0 d (here (λ m q u. IsFirstDefect forms shapes first m q u 0 d) g))

  pub all_bodied : (i : ℕ) → length ls ≤ i → BodiedOn i → AreBodied forms shapes first (map rule_data ls) (map named rs) (terms bs)
  all_bodied i h k = k (subst (λ (ms : List RuleData). AreBodied forms shapes first ms (map named (drop i rs)) (terms (drop i bs))) (sym (map_drop_all rule_data ls i h)) tt)
