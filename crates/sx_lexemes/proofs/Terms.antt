-- Lexemes of instances and of plain images.
use Rattle.std.proofs.Common.{◌≡◌, ℕ, zero, suc, ◌<◌, Bool, true, false, List, [], ◌∷◌, inl, inr, map, length, refl, sym, subst, arith}
use Rattle.std.specs.Prelude.{Option, Some, None}
use Rattle.sx_term.specs.declared.lex_kind.LexKind.{LexKind}
use Rattle.sx_term.specs.Instances.{instance, instances, Stands, StandsInKids, StandsAmong, bound_by}
use Rattle.sx_term.specs.Tree.{Tree, Trees, node, lexeme, hole, none, ◌▹◌, listed}
use Rattle.sx_rules.specs.Modes.{inputs, outputs}
use Rattle.sx_rules.specs.Rules.{Judgement, judgement_instance}
use Rattle.sx_plain.specs.Plain.{Body, Table, image_node, image, images}
use Rattle.sx_lexemes.specs.Lexemes.{LexemesAre, KidsLexemesAre, AllLexemesAre, JudgementLexemesAre, TableLexemesAre}

module _ (P : LexKind → List ℕ → Type 0) where
  -- ---- instances

  module _ (s : ℕ → Tree) where
    mutual
      pub instance_lexemes : (t : Tree) → LexemesAre P t → ((v : ℕ) → Stands v t → LexemesAre P (s v)) → LexemesAre P (instance s t)
      instance_lexemes (node label ts) h k = instances_lexemes ts h k
      instance_lexemes (lexeme kind text) h k = h
      instance_lexemes (hole v) h k = k v refl

      instances_lexemes : (ts : Trees) → KidsLexemesAre P ts → ((v : ℕ) → StandsInKids v ts → LexemesAre P (s v)) → KidsLexemesAre P (instances s ts)
      instances_lexemes none h k = tt
      instances_lexemes (t ▹ ts) h k = (instance_lexemes t h.0 (λ v e. k v (inl e)), instances_lexemes ts h.1 (λ v e. k v (inr e)))

    pub all_instance_lexemes : (ts : List Tree) → AllLexemesAre P ts → ((v : ℕ) → StandsAmong v ts → LexemesAre P (s v)) → AllLexemesAre P (map (instance s) ts)
    all_instance_lexemes [] h k = tt
    all_instance_lexemes (t ∷ ts) h k = (instance_lexemes t h.0 (λ v e. k v (inl e)), all_instance_lexemes ts h.1 (λ v e. k v (inr e)))

    -- what is put for each variable of an instance
    mutual
      variable_lexemes : (t : Tree) → LexemesAre P (instance s t) → (v : ℕ) → Stands v t → LexemesAre P (s v)
      variable_lexemes (node label ts) h v e = variables_lexemes ts h v e
      variable_lexemes (lexeme kind text) h v e = absurd e
      variable_lexemes (hole w) h v e = subst (λ (u : ℕ). LexemesAre P (s u)) (sym e) h

      variables_lexemes : (ts : Trees) → KidsLexemesAre P (instances s ts) → (v : ℕ) → StandsInKids v ts → LexemesAre P (s v)
      variables_lexemes none h v e = absurd e
      variables_lexemes (t ▹ ts) h v (inl e) = variable_lexemes t h.0 v e
      variables_lexemes (t ▹ ts) h v (inr e) = variables_lexemes ts h.1 v e

    pub all_variable_lexemes : (ts : List Tree) → AllLexemesAre P (map (instance s) ts) → (v : ℕ) → StandsAmong v ts → LexemesAre P (s v)
    all_variable_lexemes [] h v e = absurd e
    all_variable_lexemes (t ∷ ts) h v (inl e) = variable_lexemes t h.0 v e
    all_variable_lexemes (t ∷ ts) h v (inr e) = all_variable_lexemes ts h.1 v e

  -- ---- bindings

  -- past the end of a list stands a term without lexemes
  pub bound_lexemes : (ts : List Tree) → AllLexemesAre P ts → (v : ℕ) → LexemesAre P (bound_by ts v)
  bound_lexemes [] h v = tt
  bound_lexemes (t ∷ ts) h zero = h.0
  bound_lexemes (t ∷ ts) h (suc v) = bound_lexemes ts h.1 v

  pub all_bound : (ts : List Tree) (n : ℕ) → length ts ≡ n → ((v : ℕ) → v < n → LexemesAre P (bound_by ts v)) → AllLexemesAre P ts
  all_bound [] n e h = tt
  all_bound (t ∷ ts) zero e h = absurd (omega arith)
  all_bound (t ∷ ts) (suc n) e h = (h 0 (omega arith), all_bound ts n (omega arith) (λ v l. h (suc v) (omega arith)))

  pub judgement_lexemes : (binds : List Tree) → AllLexemesAre P binds → (j : Judgement) → JudgementLexemesAre P j → JudgementLexemesAre P (judgement_instance (bound_by binds) j)
  judgement_lexemes binds h j k = all_instance_lexemes (bound_by binds) j.places k (λ v e. bound_lexemes binds h v)

  -- ---- inputs and outputs

  pub inputs_lexemes : (bs : List Bool) (ts : List Tree) → AllLexemesAre P ts → AllLexemesAre P (inputs bs ts)
  inputs_lexemes [] ts h = h
  inputs_lexemes (b ∷ bs) [] h = tt
  inputs_lexemes (true ∷ bs) (t ∷ ts) h = inputs_lexemes bs ts h.1
  inputs_lexemes (false ∷ bs) (t ∷ ts) h = (h.0, inputs_lexemes bs ts h.1)

  pub outputs_lexemes : (bs : List Bool) (ts : List Tree) → AllLexemesAre P ts → AllLexemesAre P (outputs bs ts)
  outputs_lexemes [] ts h = tt
  outputs_lexemes (b ∷ bs) [] h = tt
  outputs_lexemes (true ∷ bs) (t ∷ ts) h = (h.0, outputs_lexemes bs ts h.1)
  outputs_lexemes (false ∷ bs) (t ∷ ts) h = outputs_lexemes bs ts h.1

  -- ---- plain images

  listed_lexemes : (ts : Trees) → KidsLexemesAre P ts → AllLexemesAre P (listed ts)
  listed_lexemes none h = tt
  listed_lexemes (t ▹ ts) h = (h.0, listed_lexemes ts h.1)

  module _ (table : Table) (have : TableLexemesAre P table) where
    node_lexemes : (label : ℕ) (ts : Trees) (o : Option Body) → table label ≡ o → KidsLexemesAre P ts → LexemesAre P (image_node o label ts)
    node_lexemes label ts None e h = h
    node_lexemes label ts (Some body) e h =
        instance_lexemes (bound_by (listed ts)) body.flat (have label body e) (λ v stands. bound_lexemes (listed ts) (listed_lexemes ts h) v)

    mutual
      pub image_lexemes : (t : Tree) → LexemesAre P t → LexemesAre P (image table t)
      image_lexemes (node label ts) h = node_lexemes label (images table ts) (table label) refl (images_lexemes ts h)
      image_lexemes (lexeme kind text) h = h
      image_lexemes (hole v) h = tt

      images_lexemes : (ts : Trees) → KidsLexemesAre P ts → KidsLexemesAre P (images table ts)
      images_lexemes none h = tt
      images_lexemes (t ▹ ts) h = (image_lexemes t h.0, images_lexemes ts h.1)

    pub all_image_lexemes : (ts : List Tree) → AllLexemesAre P ts → AllLexemesAre P (map (image table) ts)
    all_image_lexemes [] h = tt
    all_image_lexemes (t ∷ ts) h = (image_lexemes t h.0, all_image_lexemes ts h.1)
