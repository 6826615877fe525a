-- The lexemes of flat bodies are those of the bodies, and of the flat bodies before them.
use Rattle.std.proofs.Common.{◌≡◌, ℕ, zero, suc, ◌⊎◌, inl, inr, Bool, true, false, if◌then◌else◌}
use Rattle.std.proofs.Common.{List, [], ◌∷◌, Option, Some, None, refl, sym, ◌∙◌, subst}
use Rattle.std.specs.Prelude.{◌==◌}
use Rattle.std.specs.List.{AllByRecursion}
use Rattle.sx_term.specs.declared.lex_kind.LexKind.{LexKind}
use Rattle.sx_term.specs.declared.mark.Mark.TheVariants.{Lex}
use Rattle.sx_term.specs.Instances.{instance, instances, bound_by}
use Rattle.sx_term.specs.Spaced.{IsTokenText}
use Rattle.sx_term.specs.Tree.{Tree, Trees, node, lexeme, hole, none, ◌▹◌, listed}
use Rattle.sx_grammar.specs.Grammar.{Text}
use Rattle.sx_print.specs.Cut.{HasLexemes, HaveLexemes}
use Rattle.sx_plain.specs.Adds.{with_entry}
use Rattle.sx_plain.specs.Plain.{Body, Table, image_node, image, images}
use Rattle.sx_extension.specs.Fitting.{LexemeStands, LexemeStandsAmong, IsLexemeOf, TableHasLexemes}
use Rattle.sx_extension.specs.PlainBodies.{BodyData}
use Rattle.sx_extension.specs.PlainTables.{AddsAll}

-- ---- a property of each lexeme

module _ (P : LexKind → Text → Type 0) where
  abbrev mutual
    -- each lexeme of the term has the property
    pub Each : Tree → Type 0
    Each (node label kids) = EachOf kids
    Each (lexeme kind text) = P kind text
    Each (hole v) = Unit {0}

    pub EachOf : Trees → Type 0
    EachOf none = Unit {0}
    EachOf (t ▹ ts) = Each t × EachOf ts

  -- so it is of each flat body
  abbrev pub EachFlat : Table → Type 0
  EachFlat table = (label : ℕ) (body : Body) → table label ≡ Some body → Each body.flat

  mutual
    each_instance : (s : ℕ → Tree) → ((v : ℕ) → Each (s v)) → (t : Tree) → Each t →
        Each (instance s t)
    each_instance s put (node label ts) h = each_instances s put ts h
    each_instance s put (lexeme kind text) h = h
    each_instance s put (hole v) h = put v

    each_instances : (s : ℕ → Tree) → ((v : ℕ) → Each (s v)) → (ts : Trees) → EachOf ts →
        EachOf (instances s ts)
    each_instances s put none h = tt
    each_instances s put (t ▹ ts) h = (each_instance s put t h.0, each_instances s put ts h.1)

  each_bound : (ts : Trees) → EachOf ts → (v : ℕ) → Each (bound_by (listed ts) v)
  each_bound none h v = tt
  each_bound (t ▹ ts) h zero = h.0
  each_bound (t ▹ ts) h (suc v) = each_bound ts h.1 v

  each_node : (o : Option Body) → ((body : Body) → o ≡ Some body → Each body.flat) →
      (label : ℕ) (ts : Trees) → EachOf ts → Each (image_node o label ts)
  each_node None flat label ts h = h
  each_node (Some body) flat label ts h = each_instance (bound_by (listed ts))
      (each_bound ts h) body.flat (flat body refl)

  module _ (table : Table) (flat : EachFlat table) where
    mutual
      pub each_image : (t : Tree) → Each t → Each (image table t)
      each_image (node label ts) h = each_node (table label) (flat label) label (images table ts)
          (each_images ts h)
      each_image (lexeme kind text) h = h
      each_image (hole v) h = tt

      each_images : (ts : Trees) → EachOf ts → EachOf (images table ts)
      each_images none h = tt
      each_images (t ▹ ts) h = (each_image t h.0, each_images ts h.1)

  -- with one entry more
  each_entry : (old : Table) (label : ℕ) (body : Body) → EachFlat old → Each body.flat →
      EachFlat (with_entry old label body)
  each_entry old label body flat h other found e = by (other == label) e
    where
      by : (b : Bool) → (if b then Some body else old other) ≡ Some found → Each found.flat
      by true k = let same : body ≡ found = cc in subst (λ (y : Body). Each y.flat) same h
      by false k = flat other found k

  each_table : (old new : Table) → ((label : ℕ) → new label ≡ old label) → EachFlat old →
      EachFlat new
  each_table old new same flat label body e = flat label body (sym (same label) ∙ e)

  -- where the bodies are added one after the other
  pub each_added : (n : ℕ) (old new : Table) (bs : List BodyData) →
      AllByRecursion (λ b. Each b.term) bs → EachFlat old → AddsAll n old bs new → EachFlat new
  each_added n old new [] h flat a = each_table old new a flat
  each_added n old new (b ∷ bs) h flat a =
      let body : Body = record { arity = b.parts; flat = image old b.term } in
      let middle = each_table (with_entry old b.label body) a.0 a.1.5
      (each_entry old b.label body flat (each_image old flat b.term h.0)) in
      each_added n a.0 new bs h.1 middle a.2

  -- ---- the lexemes that stand in a term

  mutual
    pub stands_each : (t : Tree) (kind : LexKind) (text : Text) → Each t →
        LexemeStands kind text t → P kind text
    stands_each (node label ts) kind text h s = stands_each_of ts kind text h s
    stands_each (lexeme k u) kind text h s = subst (λ (l : LexKind). P l text) s.0
        (subst (P k) s.1 h)
    stands_each (hole v) kind text h s = absurd s

    stands_each_of : (ts : Trees) (kind : LexKind) (text : Text) → EachOf ts →
        LexemeStandsAmong kind text ts → P kind text
    stands_each_of none kind text h s = absurd s
    stands_each_of (t ▹ ts) kind text h (inl s) = stands_each t kind text h.0 s
    stands_each_of (t ▹ ts) kind text h (inr s) = stands_each_of ts kind text h.1 s

  mutual
    pub each_stands : (t : Tree) → ((kind : LexKind) (text : Text) → LexemeStands kind text t →
        P kind text) → Each t
    each_stands (node label ts) h = each_stand ts h
    each_stands (lexeme k u) h = h k u (refl, refl)
    each_stands (hole v) h = tt

    each_stand : (ts : Trees) → ((kind : LexKind) (text : Text) → LexemeStandsAmong kind text ts →
        P kind text) → EachOf ts
    each_stand none h = tt
    each_stand (t ▹ ts) h = (
      each_stands t (λ kind text s. h kind text (inl s)),
      each_stand ts (λ kind text s. h kind text (inr s)),
    )

-- ---- tokens that are no literals

module _ (literals : List Text) where
  abbrev Token : LexKind → Text → Type 0
  Token kind text = IsTokenText literals false (Lex kind) text

  mutual
    has_each : (t : Tree) → HasLexemes literals t → Each Token t
    has_each (node label ts) h = have_each ts h
    has_each (lexeme kind text) h = h
    has_each (hole v) h = tt

    have_each : (ts : Trees) → HaveLexemes literals ts → EachOf Token ts
    have_each none h = tt
    have_each (t ▹ ts) h = (has_each t h.0, have_each ts h.1)

  mutual
    each_has : (t : Tree) → Each Token t → HasLexemes literals t
    each_has (node label ts) h = each_have ts h
    each_has (lexeme kind text) h = h
    each_has (hole v) h = tt

    each_have : (ts : Trees) → EachOf Token ts → HaveLexemes literals ts
    each_have none h = tt
    each_have (t ▹ ts) h = (each_has t h.0, each_have ts h.1)

  module _ (before : Table) where
    abbrev Known : LexKind → Text → Type 0
    Known kind text = IsLexemeOf before kind text ⊎ Token kind text

    known_body : (t : Tree) → HasLexemes literals t → Each Known t
    known_body t h = each_stands Known t
        (λ kind text s. inr (stands_each Token t kind text (has_each t h) s))

    known_bodies : (bs : List BodyData) → AllByRecursion (λ b. HasLexemes literals b.term) bs →
        AllByRecursion (λ b. Each Known b.term) bs
    known_bodies [] h = tt
    known_bodies (b ∷ bs) h = (known_body b.term h.0, known_bodies bs h.1)

    -- each lexeme of the flat bodies with those of an extension is a token and no literal, or
    -- stands in a flat body before
    pub new_lexemes : (n : ℕ) (new : Table) (bs : List BodyData) →
        AllByRecursion (λ b. HasLexemes literals b.term) bs → AddsAll n before bs new →
        (kind : LexKind) (text : Text) → IsLexemeOf new kind text → IsLexemeOf before kind text ⊎
        IsTokenText literals false (Lex kind) text
    new_lexemes n new bs h a kind text s =
        let old : EachFlat Known before = λ label body e. each_stands Known body.flat
        (λ k u stands. inl (label, body, e, stands)) in
        let all : EachFlat Known new = each_added Known n before new bs (known_bodies bs h) old a in
        stands_each Known s.1.flat kind text (all s.0 s.1 s.2) s.3

    -- so all are such tokens where those before are
    pub flat_lexemes : (new : Table) → ((kind : LexKind) (text : Text) → IsLexemeOf new kind text →
        IsLexemeOf before kind text ⊎ IsTokenText literals false (Lex kind) text) →
        TableHasLexemes literals before → TableHasLexemes literals new
    flat_lexemes new known old label body e =
        each_has body.flat (each_stands Token body.flat
        (λ kind text s. by kind text (known kind text (label, body, e, s))))
      where
        by : (kind : LexKind) (text : Text) → IsLexemeOf before kind text ⊎
            IsTokenText literals false (Lex kind) text → IsTokenText literals false (Lex kind) text
        by kind text (inl s) = stands_each Token s.1.flat kind text
            (has_each s.1.flat (old s.0 s.1 s.2)) s.3
        by kind text (inr h) = h
