-- What comes of the lines of a file.
use Rattle.std.specs.Prelude.{ℕ, ◌⊎◌, List}
use Rattle.sx_lines.specs.Lines.{Lines, over, line}
use Rattle.sx_lines.specs.declared.kind.Kind.{Kind}
use Rattle.sx_directives.specs.declared.file_kind.FileKind.{FileKind}
use Rattle.sx_outline.specs.Declarations.{Declared}
use Rattle.sx_outline.specs.Stages.{State, Steps, IsBad}

-- What comes of a state and the lines that are left: the next line leads on, or it is the first bad
-- one and this comes of its number and kind. Where no line is left, this comes of the state and the
-- number of a further line.
abbrev pub IsReadingOutcome : (kind : FileKind) (known : Declared) (name : List ℕ) → State → Lines →
    (State → ℕ → Type 0) → (ℕ → Kind → Type 0) → Type 0
IsReadingOutcome kind known name s (over end) After Bad = After s end
IsReadingOutcome kind known name s (line number text after more) After Bad =
    ((t : State) × Steps kind known name s number text t ×
    IsReadingOutcome kind known name t more After Bad)
    ⊎ ((bad : Kind) × IsBad kind known name s text bad × Bad number bad)
