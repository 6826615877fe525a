-- The first pattern that is a node, against the label of its term.
use Rattle.std.proofs.Common.{eqb, ◌≡◌, ℕ, ◌+◌, ◌<◌, ◌≤◌, Bool, true, false, List, [], ◌∷◌, map, drop, length, get_or, Option, Some, None, Vec, refl, sym, ap, ◌∙◌, subst}
use Rattle.std.specs.Prelude.{nat_eq}
use Rattle.std.proofs.lemmas.Bool.Decides.{Decides-eqb}
use Rattle.std.proofs.lemmas.List.{drop_all, drop_more}
use Rattle.std.specs.Prelude.{IsTrue, ◌↔◌}
use Rattle.std.specs.declared.alloc.Global.{Global}
use Rattle.std.proofs.lemmas.List.{length-map}
use Rattle.sx_term.specs.Tree.{Tree, Trees, node, lexeme, hole}
use Rattle.sx_term.specs.declared.term.Term.{Term}
use Rattle.sx_term.specs.declared.term.Term.TheVariants.{Node, Lex, Var}
use Rattle.sx_term.proofs.Kids.{tree-at_node}
use Rattle.sx_term.specs.Term.{tree}
use Rattle.sx_arena.specs.Arena.{tree_at, shape_tree}
use Rattle.sx_arena.specs.Matching.{Assignment, match, match_all, match_then, match_when}
use Rattle.sx_arena.specs.Places.{selected, HasLabel, FirstLabelFits, NeverFit}
use Rattle.sx_arena.specs.declared.shape.Shape.{Shape}
use Rattle.sx_arena.specs.declared.shape.Shape.TheVariants.{Node as ShapeNode}
use Rattle.sx_arena.proofs.Placed.{maps_drop, selected_more, selected_less, selected_none}

-- what is known of the patterns from a place on is so of all
pub record Keyed (ts : List Tree) (mask : List Bool) (o : Bool) (places : List Term) (terms : List ℕ) (i k : ℕ) : Type 0 where
  pub whole : FirstLabelFits (selected o (drop i mask) (drop i (map tree places))) (map (tree_at ts) (drop k terms)) → FirstLabelFits (selected o mask (map tree places)) (map (tree_at ts) terms)
  pub rest : FirstLabelFits (selected o mask (map tree places)) (map (tree_at ts) terms) → FirstLabelFits (selected o (drop i mask) (drop i (map tree places))) (map (tree_at ts) (drop k terms))

pub keyed_first : (ts : List Tree) (mask : List Bool) (o : Bool) (places : List Term) (terms : List ℕ) → Keyed ts mask o places terms 0 0
keyed_first ts mask o places terms = record { whole = λ h. h; rest = λ h. h }

module _ (ts : List Tree) (mask : List Bool) (o : Bool) (places : List Term) (terms : List ℕ) (i k : ℕ) (p : Term) (f : Keyed ts mask o places terms i k) (l : i < length places) (e : p ≡ get_or places i p) where
  abbrev patterns_left : List Tree
  patterns_left = selected o (drop i mask) (drop i (map tree places))

  abbrev patterns_behind : List Tree
  patterns_behind = selected o (drop (i + 1) mask) (drop (i + 1) (map tree places))

  abbrev terms_left : List Tree
  terms_left = map (tree_at ts) (drop k terms)

  pub keyed_skip : (get_or mask i false ≡ o → ⊥) → Keyed ts mask o places terms (i + 1) k
  keyed_skip d =
      let a : patterns_left ≡ patterns_behind = selected_less o mask (map tree places) i (tree p) (maps_drop tree places i p l e) d in
      record {
        whole = λ h. f.whole (subst (λ ps. FirstLabelFits ps terms_left) (sym a) h);
        rest = λ h. subst (λ ps. FirstLabelFits ps terms_left) a (f.rest h);
      }

  module _ (d : get_or mask i false ≡ o) where
    patterns_are : patterns_left ≡ tree p ∷ patterns_behind
    patterns_are = selected_more o mask (map tree places) i (tree p) (maps_drop tree places i p l e) d

    -- too few terms
    pub keyed_few : length terms ≤ k → FirstLabelFits (selected o mask (map tree places)) (map (tree_at ts) terms) → ⊥
    keyed_few m h = subst (λ ps. FirstLabelFits ps []) patterns_are (subst (λ us. FirstLabelFits patterns_left (map (tree_at ts) us)) (drop_all k terms m) (f.rest h))

    module _ (t : ℕ) (m : k < length terms) (g : t ≡ get_or terms k t) where
      terms_are : terms_left ≡ tree_at ts t ∷ map (tree_at ts) (drop (k + 1) terms)
      terms_are = ap (map (tree_at ts)) (drop_more terms k t m) ∙ ap (λ u. tree_at ts u ∷ map (tree_at ts) (drop (k + 1) terms)) (sym g)

      there : FirstLabelFits (tree p ∷ patterns_behind) (tree_at ts t ∷ map (tree_at ts) (drop (k + 1) terms)) → FirstLabelFits (selected o mask (map tree places)) (map (tree_at ts) terms)
      there h = f.whole (subst (λ us. FirstLabelFits patterns_left us) (sym terms_are) (subst (λ ps. FirstLabelFits ps (tree_at ts t ∷ map (tree_at ts) (drop (k + 1) terms))) (sym patterns_are) h))

      back : FirstLabelFits (selected o mask (map tree places)) (map (tree_at ts) terms) → FirstLabelFits (tree p ∷ patterns_behind) (tree_at ts t ∷ map (tree_at ts) (drop (k + 1) terms))
      back h = subst (λ ps. FirstLabelFits ps (tree_at ts t ∷ map (tree_at ts) (drop (k + 1) terms))) patterns_are (subst (λ us. FirstLabelFits patterns_left us) terms_are (f.rest h))

      pub keyed_more : ((ps us : List Tree) (u : Tree) → FirstLabelFits (tree p ∷ ps) (u ∷ us) ≡ FirstLabelFits ps us) → Keyed ts mask o places terms (i + 1) (k + 1)
      keyed_more same = record {
        whole = λ h. there (subst (λ (X : Type 0). X) (sym (same patterns_behind (map (tree_at ts) (drop (k + 1) terms)) (tree_at ts t))) h);
        rest = λ h. subst (λ (X : Type 0). X) (same patterns_behind (map (tree_at ts) (drop (k + 1) terms)) (tree_at ts t)) (back h);
      }

      pub keyed_lexeme : (kind : _) (text : _) → p ≡ Lex kind text → Keyed ts mask o places terms (i + 1) (k + 1)
      keyed_lexeme kind text q = keyed_more (λ ps us u. ap (λ r. FirstLabelFits (tree r ∷ ps) (u ∷ us)) q)

      pub keyed_hole : (v : ℕ) → p ≡ Var v → Keyed ts mask o places terms (i + 1) (k + 1)
      keyed_hole v q = keyed_more (λ ps us u. ap (λ r. FirstLabelFits (tree r ∷ ps) (u ∷ us)) q)

      pub keyed_node : (label : ℕ) (kids : Vec Term Global) (found : Bool) → p ≡ Node label kids → IsTrue found ↔ HasLabel label (tree_at ts t) →
          IsTrue found ↔ FirstLabelFits (selected o mask (map tree places)) (map (tree_at ts) terms)
      keyed_node label kids found q h =
          let same : FirstLabelFits (tree p ∷ patterns_behind) (tree_at ts t ∷ map (tree_at ts) (drop (k + 1) terms)) ≡ HasLabel label (tree_at ts t) = ap (λ r. FirstLabelFits (r ∷ patterns_behind) (tree_at ts t ∷ map (tree_at ts) (drop (k + 1) terms))) (ap tree q ∙ tree-at_node (Node label kids) label kids refl) in (
            (λ x. there (subst (λ (X : Type 0). X) (sym same) (h.0 x))),
            (λ x. h.1 (subst (λ (X : Type 0). X) same (back x))),
          )

pub keyed_end : (ts : List Tree) (mask : List Bool) (o : Bool) (places : List Term) (terms : List ℕ) (i k : ℕ) → Keyed ts mask o places terms i k → length places ≤ i →
    FirstLabelFits (selected o mask (map tree places)) (map (tree_at ts) terms)
keyed_end ts mask o places terms i k f l =
    let none : drop i (map tree places) ≡ [] = drop_all i (map tree places) (subst (λ n. n ≤ i) (sym (length-map places tree)) l) in
    f.whole (subst (λ ps. FirstLabelFits ps (map (tree_at ts) (drop k terms))) (sym (ap (selected o (drop i mask)) none ∙ selected_none o (drop i mask))) tt)

-- a label against a shape
pub node_labelled : (ts : List Tree) (label other : ℕ) (shape : Shape) (kids : _) (found : Bool) → shape ≡ ShapeNode other kids → found ≡ eqb label other → IsTrue found ↔ HasLabel label (shape_tree ts shape)
node_labelled ts label other shape kids found e f = subst (λ (s : Shape). IsTrue found ↔ HasLabel label (shape_tree ts s)) (sym e) (subst (λ (b : Bool). IsTrue b ↔ (label ≡ other)) (sym f) (Decides-eqb label other))

-- where the first label is another, or a pattern has no term, nothing fits
when_other : (label other : ℕ) (r : Option Assignment) (b : Bool) → nat_eq label other ≡ b → (label ≡ other → ⊥) → match_when (nat_eq label other) r ≡ None
when_other label other r true e d = absurd (d ((Decides-eqb label other).0 e))
when_other label other r false e d = ap (λ x. match_when x r) e

then_none : (m : Option Assignment) (f : Assignment → Option Assignment) → ((env : Assignment) → f env ≡ None) → match_then m f ≡ None
then_none None f h = refl
then_none (Some env) f h = h env

node_never : (label : ℕ) (kids : Trees) (t : Tree) → (HasLabel label t → ⊥) → (env : Assignment) → match (node label kids) t env ≡ None
node_never label kids (node other more) d env = when_other label other _ (nat_eq label other) refl d
node_never label kids (lexeme kind text) d env = refl
node_never label kids (hole v) d env = refl

pub never_fits : (ps ts : List Tree) → (FirstLabelFits ps ts → ⊥) → NeverFit ps ts
never_fits [] ts d env = absurd (d tt)
never_fits (p ∷ ps) [] d env = refl
never_fits (node label kids ∷ ps) (t ∷ ts) d env = ap (λ m. match_then m (match_all ps ts)) (node_never label kids t d env)
never_fits (lexeme kind text ∷ ps) (t ∷ ts) d env = then_none (match (lexeme kind text) t env) (match_all ps ts) (never_fits ps ts d)
never_fits (hole v ∷ ps) (t ∷ ts) d env = then_none (match (hole v) t env) (match_all ps ts) (never_fits ps ts d)
