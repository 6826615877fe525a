-- The tree text of a reading, one step on.
use Rattle.std.proofs.Common.{◌≡◌, ℕ, ◌+◌, ◌<◌, ◌≤◌, List, [], ◌∷◌, ◌++◌, Vec, length, map, drop, get_or, ap, ◌∙◌, sym, subst, append_assoc, arith}
use Rattle.std.specs.Prelude.{slice_index_or}
use Rattle.std.proofs.lemmas.List.{get_or-map, length-map}
use Rattle.std.specs.declared.alloc.Global.{Global}
use Rattle.sx_grammar.specs.declared.production.Production.{Production}
use Rattle.sx_grammar.specs.declared.grammar_parts.GrammarParts.{GrammarParts}
use Rattle.sx_grammar.specs.Parts.{Parts, parts, line, labels}
use Rattle.sx_grammar.specs.Grammar.{Text}
use Rattle.sx_grammar.specs.Reading.{reading_depth, readings_depth}
use Rattle.sx_forest.specs.declared.reading.Reading.{Reading, Node}
use Rattle.sx_forest.specs.Readings.{plain_reading, plain_readings}
use Rattle.sx_forest.specs.Text.{tree_text, kids_text, others_text, IsWithin, AreWithin}
use Rattle.sx_forest.proofs.Kids.{reading-at_node, readings-drop, readings_depth-at}

-- the label with this number
line_label : (ps : List Production) (i : ℕ) (r : Production) → i < length ps → r ≡ get_or ps i r → get_or (map (λ l. l.label) (map line ps)) i [] ≡ r.label
line_label ps i r h e =
    get_or-map (λ l. l.label) (map line ps) i (line r) [] (let n : length ps ≡ length (map line ps) = simp length-map in omega arith)
    ∙ ap (λ l. l.label) (get_or-map line ps i r (line r) h)
    ∙ ap (λ l. l.label) (sym e)

pub label_at : (g : GrammarParts) (p : Parts) (i : ℕ) (r : Production) → parts g ≡ p → i < length p.productions → r ≡ get_or g.productions.items i r → slice_index_or (labels p) i [] ≡ r.label
label_at g p i r same h e =
    let n : length p.productions ≡ length g.productions.items = sym (ap (λ q. length q.productions) same) ∙ (let m : length (map line g.productions.items) ≡ length g.productions.items = simp length-map in m) in
    ap (λ q. slice_index_or (labels q) i []) (sym same) ∙ line_label g.productions.items i r (omega arith) e

-- the kids of a node behind its label
pub node_text : (ls ts : List Text) (r : Reading) (label : ℕ) (kids : Vec Reading Global) (from to : ℕ) (rs : List Reading) (old now new : List ℕ) → r ≡ Node label kids from to → rs ≡ kids.items →
    now ≡ old ++ slice_index_or ls label [] → new ≡ now ++ kids_text ls ts (plain_readings rs) → new ≡ old ++ tree_text ls ts (plain_reading r)
node_text ls ts r label kids from to rs old now new e s p q =
    q ∙ ap (λ x. x ++ kids_text ls ts (plain_readings rs)) p ∙ append_assoc old (slice_index_or ls label []) (kids_text ls ts (plain_readings rs))
    ∙ ap (λ x. old ++ (slice_index_or ls label [] ++ kids_text ls ts (plain_readings x))) s
    ∙ ap (λ x. old ++ tree_text ls ts x) (sym (reading-at_node r label kids from to e))

-- the kids of a node that is within are within
pub kids_within : (labels tokens : ℕ) (r : Reading) (label : ℕ) (kids : Vec Reading Global) (from to : ℕ) (rs : List Reading) → r ≡ Node label kids from to → rs ≡ kids.items → IsWithin labels tokens (plain_reading r) → AreWithin labels tokens (plain_readings rs)
kids_within labels tokens r label kids from to rs e s w =
    subst (λ x. AreWithin labels tokens (plain_readings x)) (sym s) (subst (IsWithin labels tokens) (reading-at_node r label kids from to e) w).1

-- one more kid
pub within_step : (labels tokens : ℕ) (rs : List Reading) (i : ℕ) (k : Reading) → i < length rs → k ≡ get_or rs i k → AreWithin labels tokens (plain_readings (drop i rs)) → IsWithin labels tokens (plain_reading k) × AreWithin labels tokens (plain_readings (drop (i + 1) rs))
within_step labels tokens rs i k h e w = subst (AreWithin labels tokens) (readings-drop rs i k h e) w

steps : (now text rest : List ℕ) → ((now ++ 44 ∷ []) ++ text) ++ (rest ++ 41 ∷ []) ≡ now ++ ((44 ∷ (text ++ rest)) ++ 41 ∷ [])
steps now text rest = simp append_assoc

pub text_step : (ls ts : List Text) (now a b : List ℕ) (rs : List Reading) (i : ℕ) (k : Reading) → i < length rs → k ≡ get_or rs i k → a ≡ now ++ 44 ∷ [] → b ≡ a ++ tree_text ls ts (plain_reading k) →
    b ++ (others_text ls ts (plain_readings (drop (i + 1) rs)) ++ 41 ∷ []) ≡ now ++ (others_text ls ts (plain_readings (drop i rs)) ++ 41 ∷ [])
text_step ls ts now a b rs i k h e p q =
    ap (λ x. x ++ (others_text ls ts (plain_readings (drop (i + 1) rs)) ++ 41 ∷ [])) (q ∙ ap (λ x. x ++ tree_text ls ts (plain_reading k)) p)
    ∙ steps now (tree_text ls ts (plain_reading k)) (others_text ls ts (plain_readings (drop (i + 1) rs)))
    ∙ sym (ap (λ x. now ++ (others_text ls ts x ++ 41 ∷ [])) (readings-drop rs i k h e))

-- a kid behind the first is no deeper than all kids
pub other_depth : (rs others : List Reading) (first k : Reading) (i : ℕ) → rs ≡ first ∷ others → i < length others → k ≡ get_or others i k → reading_depth (plain_reading k) ≤ readings_depth (plain_readings rs)
other_depth rs others first k i e h g =
    let d = ap (λ x. readings_depth (plain_readings x)) e in
    omega (arith, readings_depth-at others i k h g)

pub appended : (a b c d : List ℕ) → ((more : List ℕ) × (b ≡ a ++ more)) → c ≡ b ++ 44 ∷ [] → ((more : List ℕ) × (d ≡ c ++ more)) → (more : List ℕ) × (d ≡ a ++ more)
appended a b c d p e q = (p.0 ++ (44 ∷ [] ++ q.0), q.1 ∙ ap (λ x. x ++ q.0) (e ∙ ap (λ x. x ++ 44 ∷ []) p.1) ∙ simp append_assoc)
