-- What is left open can be closed.
use Rattle.std.proofs.Common.{◌≡◌, ℕ, List, [], ◌∷◌, refl, inl}
use Rattle.std.specs.Prelude.{codes}
use Rattle.sx_lines.specs.Lines.{next_number}
use Rattle.sx_directives.specs.declared.file_kind.FileKind.{FileKind}
use Rattle.sx_directives.specs.declared.file_kind.FileKind.TheVariants as files
use Rattle.sx_directives.specs.Parts.{parts_of}
use Rattle.sx_directives.specs.Spelling.{IsName}
use Rattle.sx_directives.specs.Rows.{IsRow}
use Rattle.sx_directives.specs.declared.row.Row.TheVariants.{End}
use Rattle.sx_outline.specs.Declarations.{Declared}
use Rattle.sx_outline.specs.Stages.{Numbered, PlainData, RuleData, Begun, Stage, at_start, at_declarations, at_body, at_plains, at_rules, at_premises, at_conclusion, at_end, State, IsGoodRow, IsBar, IsWhole, at_stage as to, paired, with_plain, concluded, ended}
use Rattle.sx_outline.proofs.Led.{Leads}
use Rattle.sx_outline.proofs.HeadRows.{language_line, language_row, language_kept, end_kept, bar_kept, some_kept}
use Rattle.sx_outline.proofs.Written.{InOrder}

-- more lines, after which nothing is left open
pub record Closes (kind : FileKind) (known : Declared) (name : List ℕ) (s : State) (n : ℕ) : Type 0 where
  pub lines : List Numbered
  pub last : State
  pub leads : Leads kind known name s lines last
  pub whole : IsWhole last.stage
  pub order : InOrder n lines

bar_is : IsBar (codes "---")
unfolding parts_of
bar_is = refl

end_is : parts_of (codes "end") ≡ codes "end" ∷ []
unfolding parts_of
end_is = refl

end_row : (kind : FileKind) → IsRow kind (codes "end") End
end_row files.Language = record { rest = []; parts_are = end_is; word = refl; follows = refl }
end_row files.Extension = record { rest = []; parts_are = end_is; word = refl; follows = refl }

end_good : (kind : FileKind) (known : Declared) (s : State) (r : RuleData) → IsGoodRow kind known (to s (at_end r)) (codes "end") End
end_good kind known s r = record { spelled = end_row kind; fits = tt; stands = tt; main = tt }

-- a rule that has its conclusion
end_closes : (kind : FileKind) (known : Declared) (name : List ℕ) (s : State) (r : RuleData) (n : ℕ) → Closes kind known name (to s (at_end r)) n
end_closes kind known name s r n =
    let l : Numbered = record { number = n; text = codes "end" } in
    let last : State = ended (to s (at_end r)) (at_end r) in
    record { lines = l ∷ []; last = last; leads = (last, (End, end_good kind known s r, refl), refl); whole = tt; order = (0, refl, end_kept, tt) }

conclusion_closes : (kind : FileKind) (known : Declared) (name : List ℕ) (s : State) (b : Begun) (n : ℕ) → Closes kind known name (to s (at_conclusion b)) n
conclusion_closes kind known name s b n =
    let l : Numbered = record { number = n; text = codes "x" } in
    let rest = end_closes kind known name s (concluded b l) (next_number n) in
    record { lines = l ∷ rest.lines; last = rest.last; leads = (to s (at_end (concluded b l)), refl, rest.leads); whole = rest.whole; order = (0, refl, some_kept, rest.order) }

premises_close : (kind : FileKind) (known : Declared) (name : List ℕ) (s : State) (b : Begun) (n : ℕ) → Closes kind known name (to s (at_premises b)) n
premises_close kind known name s b n =
    let l : Numbered = record { number = n; text = codes "---" } in
    let rest = conclusion_closes kind known name s b (next_number n) in
    record { lines = l ∷ rest.lines; last = rest.last; leads = (to s (at_conclusion b), inl (bar_is, refl), rest.leads); whole = rest.whole; order = (0, refl, bar_kept, rest.order) }

-- the first line has been read
abbrev pub HasBegun : Stage → Type 0
HasBegun at_start = ⊥
HasBegun _ = Unit {0}

closes_at : (kind : FileKind) (known : Declared) (name : List ℕ) (at : Stage) (d : Declared) (plains : List PlainData) (rules : List RuleData) (n : ℕ) → HasBegun at
    → Closes kind known name (record { stage = at; declared = d; plains = plains; rules = rules }) n
closes_at kind known name at_start d plains rules n h = absurd h
closes_at kind known name at_declarations d plains rules n h =
    record { lines = []; last = record { stage = at_declarations; declared = d; plains = plains; rules = rules }; leads = refl; whole = tt; order = tt }
closes_at kind known name (at_body b) d plains rules n h =
    let l : Numbered = record { number = n; text = codes "x" } in
    let last : State = with_plain (record { stage = at_body b; declared = d; plains = plains; rules = rules }) (paired b l) in
    record { lines = l ∷ []; last = last; leads = (last, refl, refl); whole = tt; order = (0, refl, some_kept, tt) }
closes_at kind known name at_plains d plains rules n h =
    record { lines = []; last = record { stage = at_plains; declared = d; plains = plains; rules = rules }; leads = refl; whole = tt; order = tt }
closes_at kind known name at_rules d plains rules n h =
    record { lines = []; last = record { stage = at_rules; declared = d; plains = plains; rules = rules }; leads = refl; whole = tt; order = tt }
closes_at kind known name (at_premises b) d plains rules n h = premises_close kind known name (record { stage = at_premises b; declared = d; plains = plains; rules = rules }) b n
closes_at kind known name (at_conclusion b) d plains rules n h = conclusion_closes kind known name (record { stage = at_conclusion b; declared = d; plains = plains; rules = rules }) b n
closes_at kind known name (at_end r) d plains rules n h = end_closes kind known name (record { stage = at_end r; declared = d; plains = plains; rules = rules }) r n

pub closes : (kind : FileKind) (known : Declared) (name : List ℕ) (s : State) (n : ℕ) → HasBegun s.stage → Closes kind known name s n
closes kind known name s n h = closes_at kind known name s.stage s.declared s.plains s.rules n h

-- the first line of a language file closes what has not begun
language_at : (known : Declared) (name : List ℕ) (at : Stage) (d : Declared) (plains : List PlainData) (rules : List RuleData) (n : ℕ) → IsName name
    → Closes files.Language known name (record { stage = at; declared = d; plains = plains; rules = rules }) n
language_at known name at_start d plains rules n h =
    let l : Numbered = record { number = n; text = language_line name } in
    let last : State = record { stage = at_declarations; declared = d; plains = plains; rules = rules } in
    record { lines = l ∷ []; last = last; leads = (last, (language_row name h, refl), refl); whole = tt; order = (0, refl, language_kept name h, tt) }
language_at known name at_declarations d plains rules n h = closes_at files.Language known name at_declarations d plains rules n tt
language_at known name (at_body b) d plains rules n h = closes_at files.Language known name (at_body b) d plains rules n tt
language_at known name at_plains d plains rules n h = closes_at files.Language known name at_plains d plains rules n tt
language_at known name at_rules d plains rules n h = closes_at files.Language known name at_rules d plains rules n tt
language_at known name (at_premises b) d plains rules n h = closes_at files.Language known name (at_premises b) d plains rules n tt
language_at known name (at_conclusion b) d plains rules n h = closes_at files.Language known name (at_conclusion b) d plains rules n tt
language_at known name (at_end r) d plains rules n h = closes_at files.Language known name (at_end r) d plains rules n tt

pub language_closes : (known : Declared) (name : List ℕ) (s : State) (n : ℕ) → IsName name → Closes files.Language known name s n
language_closes known name s n h = language_at known name s.stage s.declared s.plains s.rules n h
