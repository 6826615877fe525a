-- Lines that are those of a file lead to all that it states.
use Rattle.std.proofs.Common.{ℕ, List, refl, inl}
use Rattle.sx_lines.specs.Lines.{Lines, over, line}
use Rattle.sx_directives.specs.declared.file_kind.FileKind.{FileKind}
use Rattle.sx_outline.specs.Declarations.{Declared}
use Rattle.sx_outline.specs.Stages.{State}
use Rattle.sx_outline.specs.Structure.{numbered_lines}
use Rattle.sx_outline.proofs.OutcomeSteps.{Reaches}
use Rattle.sx_outline.proofs.LinesEnded.{IsAll, ends_whole}
use Rattle.sx_outline.specs.BadLines.{AreMains}
use Rattle.sx_outline.proofs.LeftLines.{Whole, LeftAt}
use Rattle.sx_outline.proofs.LinesOutlined.{leads_on}

-- the lines of a file lead to a state that has all that it states
pub record HasAll (kind : FileKind) (known : Declared) (name : List ℕ) (s : State) (left : Lines) (o : Whole) : Type 0 where
  pub state : State
  pub number : ℕ
  pub all : IsAll known o state.stage state.declared state.plains state.rules
  pub reaches : Reaches kind known name s left state number

pub all_of : (kind : FileKind) (known : Declared) (name : List ℕ) (s : State) (left : Lines) (o : Whole) → AreMains known known.mains → LeftAt kind known name o (numbered_lines left) s
    → HasAll kind known name s left o
all_of kind known name s (over n) o mains h =
    record { state = s; number = n; all = ends_whole kind known name s.stage s.declared s.plains s.rules o h; reaches = (refl, refl) }
all_of kind known name s (line n text after more) o mains h =
    let lead = leads_on kind known name s.stage s.declared s.plains s.rules o mains n text (numbered_lines more) h in
    let next = all_of kind known name lead.next more o mains lead.left in
    record { state = next.state; number = next.number; all = next.all; reaches = inl (lead.next, lead.steps, next.reaches) }
