-- Equality of terms by numbers, assignments of variables, and matching as a function of the
-- assignment so far.
use Rattle.std.specs.Prelude.{◌≡◌, ℕ, ◌&&◌, Bool, true, false, List, [], ◌∷◌, ◌⊎◌, Option, Some}
use Rattle.std.specs.Prelude.{None, nat_eq}
use Rattle.std.specs.Cmp.Lexicographic.{pointwise}
use Rattle.sx_term.specs.declared.lex_kind.LexKind.{LexKind}
use Rattle.sx_term.specs.declared.lex_kind.LexKind.TheVariants.{Id, Num, Str}
use Rattle.sx_term.specs.Tree.{Tree, Trees, node, lexeme, hole, none, ◌▹◌}
use Rattle.sx_rules.specs.Instances.{instance, Stands}

abbrev pub same_kind : LexKind → LexKind → Bool
same_kind Id Id = true
same_kind Num Num = true
same_kind Str Str = true
same_kind _ _ = false

-- whether two terms are equal
abbrev mutual
  pub same : Tree → Tree → Bool
  same (node l ts) (node m us) = nat_eq l m && same_kids ts us
  same (lexeme k x) (lexeme m y) = same_kind k m && pointwise nat_eq x y
  same (hole v) (hole w) = nat_eq v w
  same _ _ = false

  pub same_kids : Trees → Trees → Bool
  same_kids none none = true
  same_kids (t ▹ ts) (u ▹ us) = same t u && same_kids ts us
  same_kids _ _ = false

abbrev pub same_all : List Tree → List Tree → Bool
same_all [] [] = true
same_all (t ∷ ts) (u ∷ us) = same t u && same_all ts us
same_all _ _ = false

-- which variables are bound so far, and to what
abbrev pub Assignment : Type 0
Assignment = ℕ → Option Tree

abbrev pub nothing_bound : Assignment
nothing_bound v = None

-- the assignment with v bound to t
abbrev pub bind : Assignment → ℕ → Tree → Assignment
bind env v t w = elim (nat_eq w v) [ true ↦ Some t | false ↦ env w ]

-- the variable v against t: bound now, or bound to t before
abbrev pub match_variable : Option Tree → ℕ → Tree → Assignment → Option Assignment
match_variable None v t env = Some (bind env v t)
match_variable (Some u) v t env = elim (same u t) [ true ↦ Some env | false ↦ None ]

abbrev pub match_when : Bool → Option Assignment → Option Assignment
match_when true r = r
match_when false r = None

abbrev pub match_then : Option Assignment → (Assignment → Option Assignment) → Option Assignment
match_then None f = None
match_then (Some env) f = f env

-- the assignment, extended so that the pattern's instance is the term, or None
abbrev mutual
  pub match : Tree → Tree → Assignment → Option Assignment
  match (hole v) t env = match_variable (env v) v t env
  match (lexeme k x) t env = match_when (same (lexeme k x) t) (Some env)
  match (node l ps) (node m ts) env = match_when (nat_eq l m) (match_kids ps ts env)
  match (node l ps) _ env = None

  pub match_kids : Trees → Trees → Assignment → Option Assignment
  match_kids none none env = Some env
  match_kids (p ▹ ps) (t ▹ ts) env = match_then (match p t env) (match_kids ps ts)
  match_kids _ _ env = None

-- the same for a list of patterns and as many terms
abbrev pub match_all : List Tree → List Tree → Assignment → Option Assignment
match_all [] [] env = Some env
match_all (p ∷ ps) (t ∷ ts) env = match_then (match p t env) (match_all ps ts)
match_all _ _ env = None

-- the substitution that an assignment states; what is not bound gives a term without variables
abbrev pub value_or : Option Tree → Tree
value_or None = node 0 none
value_or (Some t) = t

abbrev pub filled : Assignment → ℕ → Tree
filled env v = value_or (env v)

-- the variable is bound
abbrev pub IsBound : Assignment → ℕ → Type 0
IsBound env v = (u : Tree) × (env v ≡ Some u)

-- each binding of the one stands in the other
abbrev pub ExtendsAssignment : Assignment → Assignment → Type 0
ExtendsAssignment env more = (v : ℕ) (u : Tree) → env v ≡ Some u → more v ≡ Some u

-- the substitution gives each bound variable what it is bound to
abbrev pub Agrees : Assignment → (ℕ → Tree) → Type 0
Agrees env s = (v : ℕ) (u : Tree) → env v ≡ Some u → s v ≡ u

-- the one assignment extends the other by just the pattern's variables, and under it the pattern's
-- instance is the term
pub record IsMatch (pattern term : Tree) (env more : Assignment) : Type 0 where
  pub extends : ExtendsAssignment env more
  pub only : (v : ℕ) → IsBound more v → IsBound env v ⊎ Stands v pattern
  pub every : (v : ℕ) → Stands v pattern → IsBound more v
  pub instance_is : instance (filled more) pattern ≡ term
