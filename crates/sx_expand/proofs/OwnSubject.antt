-- The subject of a lowered node is its flat body, or that of its rule.
use Rattle.std.proofs.Common.{◌≡◌, ℕ, Bool, true, false, List, [], ◌∷◌, Option, Some, None, refl, sym, ap, ◌∙◌, subst}
use Rattle.std.specs.Prelude.{slice_get}
use Rattle.sx_term.specs.Tree.{Tree}
use Rattle.sx_rules.specs.Discipline.{subjects_of}
use Rattle.sx_rules.specs.Modes.{Modes, outputs}
use Rattle.sx_rules.specs.Rules.{Rule}
use Rattle.sx_plain.specs.Plain.{Table}
use Rattle.sx_rewrite.specs.Flat.{flat_places}
use Rattle.sx_rewrite.specs.Accepted.{Known, basic, checked, rule_in, Accepted, known_of}
use Rattle.sx_rewrite.specs.Stored.{stored_in, body_in, flat_body_at}
use Rattle.sx_expand.specs.OwnSubjects.{own_judgement}

pub flat-none : (table : Table) (o : Option Tree) (mask : List Bool) (ts : List Tree) → outputs mask ts ≡ [] → outputs mask (flat_places table o mask ts) ≡ []
flat-none table o [] ts e = refl
flat-none table o (b ∷ mask) [] e = refl
flat-none table o (true ∷ mask) (t ∷ ts) e = cc
flat-none table o (false ∷ mask) (t ∷ ts) e = flat-none table o mask ts e

flat-body : (table : Table) (b : Tree) (mask : List Bool) (ts : List Tree) (t : Tree) (rest : List Tree) → outputs mask ts ≡ t ∷ rest → (more : List Tree) × (outputs mask (flat_places table (Some b) mask ts) ≡ b ∷ more)
flat-body table b [] ts t rest e = cc
flat-body table b (x ∷ mask) [] t rest e = cc
flat-body table b (true ∷ mask) (u ∷ ts) t rest e = (outputs mask (flat_places table (Some b) mask ts), refl)
flat-body table b (false ∷ mask) (u ∷ ts) t rest e = flat-body table b mask ts t rest e

pub flat-own : (table : Table) (mask : List Bool) (ts : List Tree) (t : Tree) (rest : List Tree) → outputs mask ts ≡ t ∷ rest → (more : List Tree) × (outputs mask (flat_places table None mask ts) ≡ t ∷ more)
flat-own table [] ts t rest e = cc
flat-own table (x ∷ mask) [] t rest e = cc
flat-own table (true ∷ mask) (u ∷ ts) t rest e =
    let q : u ≡ t = cc in (outputs mask (flat_places table None mask ts), ap (λ (y : Tree). y ∷ outputs mask (flat_places table None mask ts)) q)
flat-own table (false ∷ mask) (u ∷ ts) t rest e = flat-own table mask ts t rest e

module _ (a : Accepted) (subjects : Modes) (r : ℕ) where
  body-is : (x : Known) → slice_get (known_of a) r ≡ Some x → body_in (stored_in (Some x)) ≡ flat_body_at a r
  body-is x e = ap (λ (o : Option Known). body_in (stored_in o)) (sym e)

  -- there is none where the rule's conclusion has none
  none-of : (x : Known) → subjects_of subjects (rule_in x).conclusion ≡ [] → subjects_of subjects (own_judgement a.table subjects x) ≡ []
  none-of (basic rule) h = h
  none-of (checked c) h = flat-none a.table c.body (subjects c.rule.conclusion.form) c.rule.conclusion.places h

  pub own-none : (x : Known) (rule : Rule) → rule_in x ≡ rule → subjects_of subjects rule.conclusion ≡ [] → subjects_of subjects (own_judgement a.table subjects x) ≡ []
  own-none x rule e h = none-of x (ap (λ (y : Rule). subjects_of subjects y.conclusion) e ∙ h)

  -- the flat body
  body-of : (x : Known) (b : Tree) → body_in (stored_in (Some x)) ≡ Some b → (t : Tree) (rest : List Tree) → subjects_of subjects (rule_in x).conclusion ≡ t ∷ rest →
      (more : List Tree) × (subjects_of subjects (own_judgement a.table subjects x) ≡ b ∷ more)
  body-of (basic rule) b e t rest h = cc
  body-of (checked c) b e t rest h =
      subst (λ (o : Option Tree). (more : List Tree) × (outputs (subjects c.rule.conclusion.form) (flat_places a.table o (subjects c.rule.conclusion.form) c.rule.conclusion.places) ≡ b ∷ more)) (sym e)
      (flat-body a.table b (subjects c.rule.conclusion.form) c.rule.conclusion.places t rest h)

  pub own-body : (x : Known) (rule : Rule) (b : Tree) → slice_get (known_of a) r ≡ Some x → rule_in x ≡ rule → flat_body_at a r ≡ Some b → (t : Tree) (rest : List Tree) → subjects_of subjects rule.conclusion ≡ t ∷ rest →
      (more : List Tree) × (subjects_of subjects (own_judgement a.table subjects x) ≡ b ∷ more)
  own-body x rule b at e f t rest h = body-of x b (body-is x at ∙ f) t rest (ap (λ (y : Rule). subjects_of subjects y.conclusion) e ∙ h)

  -- or the rule's own subject
  bare-of : (x : Known) → body_in (stored_in (Some x)) ≡ None → (t : Tree) (rest : List Tree) → subjects_of subjects (rule_in x).conclusion ≡ t ∷ rest →
      (more : List Tree) × (subjects_of subjects (own_judgement a.table subjects x) ≡ t ∷ more)
  bare-of (basic rule) e t rest h = (rest, h)
  bare-of (checked c) e t rest h =
      subst (λ (o : Option Tree). (more : List Tree) × (outputs (subjects c.rule.conclusion.form) (flat_places a.table o (subjects c.rule.conclusion.form) c.rule.conclusion.places) ≡ t ∷ more)) (sym e)
      (flat-own a.table (subjects c.rule.conclusion.form) c.rule.conclusion.places t rest h)

  pub own-bare : (x : Known) (rule : Rule) → slice_get (known_of a) r ≡ Some x → rule_in x ≡ rule → flat_body_at a r ≡ None → (t : Tree) (rest : List Tree) → subjects_of subjects rule.conclusion ≡ t ∷ rest →
      (more : List Tree) × (subjects_of subjects (own_judgement a.table subjects x) ≡ t ∷ more)
  own-bare x rule at e f t rest h = bare-of x (body-is x at ∙ f) t rest (ap (λ (y : Rule). subjects_of subjects y.conclusion) e ∙ h)
