-- What the lines of a language file or of an extension file declare.
use Rattle.std.specs.Prelude.{ℕ, List, [], ◌∷◌, ◌++◌}
use Rattle.sx_grammar.specs.Parts.{Line, Parts, line}
use Rattle.sx_grammar.specs.declared.sort_line.SortLine.{SortLine}
use Rattle.sx_directives.specs.declared.rows.VarLine.{VarLine}
use Rattle.sx_directives.specs.declared.rows.FormLine.{FormLine}
use Rattle.sx_directives.specs.declared.rows.MainLine.{MainLine}
use Rattle.sx_directives.specs.declared.spelled.FormSymbol.{FormSymbol}
use Rattle.sx_directives.specs.declared.row.Row.{Row}
use Rattle.sx_directives.specs.declared.row.Row.TheVariants.{Sort, Prod, Var, Form, Main}

-- a form as plain data
pub record DeclaredForm : Type 0 where
  pub name : List ℕ
  pub symbols : List FormSymbol

-- the name and the symbols of a form line
abbrev pub declared_form : FormLine → DeclaredForm
declared_form f = record { name = f.name; symbols = f.symbols.items }

-- sorts, productions, stems, forms and main forms, each in the order of their lines, and the names
-- that the first lines use
pub record Declared : Type 0 where
  pub sorts : List SortLine
  pub productions : List Line
  pub vars : List VarLine
  pub forms : List DeclaredForm
  pub mains : List MainLine
  pub uses : List (List ℕ)

-- what is declared before the first line of a language file
abbrev pub nothing : Declared
nothing = record { sorts = []; productions = []; vars = []; forms = []; mains = []; uses = [] }

-- what is declared after the first lines of an extension file, which use these names: the sorts and
-- stems of its language
abbrev pub declared_before : List SortLine → List VarLine → List (List ℕ) → Declared
declared_before sorts vars uses = record {
  sorts = sorts;
  productions = [];
  vars = vars;
  forms = [];
  mains = [];
  uses = uses;
}

-- with one more row at the end
abbrev pub declare : Declared → Row → Declared
declare d (Sort s) = record {
  sorts = d.sorts ++ s ∷ [];
  productions = d.productions;
  vars = d.vars;
  forms = d.forms;
  mains = d.mains;
  uses = d.uses;
}
declare d (Prod p) =
    record {
      sorts = d.sorts;
      productions = d.productions ++ line p ∷ [];
      vars = d.vars;
      forms = d.forms;
      mains = d.mains;
      uses = d.uses;
    }
declare d (Var v) = record {
  sorts = d.sorts;
  productions = d.productions;
  vars = d.vars ++ v ∷ [];
  forms = d.forms;
  mains = d.mains;
  uses = d.uses;
}
declare d (Form f) =
    record {
      sorts = d.sorts;
      productions = d.productions;
      vars = d.vars;
      forms = d.forms ++ declared_form f ∷ [];
      mains = d.mains;
      uses = d.uses;
    }
declare d (Main m) = record {
  sorts = d.sorts;
  productions = d.productions;
  vars = d.vars;
  forms = d.forms;
  mains = d.mains ++ m ∷ [];
  uses = d.uses;
}
declare d _ = d

-- the parts of the grammar
abbrev pub declared_parts : Declared → Parts
declared_parts d = record { sorts = d.sorts; productions = d.productions }
