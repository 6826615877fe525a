-- What showing nodes to auditors answers.
use Rattle.std.specs.Prelude.{◌≡◌, ℕ, ◌+◌, Bool, true, false, if◌then◌else◌, List, [], ◌∷◌, ◌++◌}
use Rattle.std.specs.Prelude.{map, length, Result, Ok, Err}
use Rattle.std.specs.List.{AllByRecursion}
use Rattle.sx_audit.specs.Meaning.{Node, Meaning, after_node, verdict}
use Rattle.sx_audit.specs.Kinds.{as_count}
use Rattle.sx_audit.specs.declared.show_error.ShowError.{ShowError}
use Rattle.sx_audit.specs.declared.show_error.ShowError.TheVariants.{Objected, Memory}

-- the auditor and its verdict after its step was applied to the nodes, up to and including the
-- first that it refuses
abbrev pub after_nodes : Meaning → List Node → Meaning × Bool
after_nodes m [] = (m, true)
after_nodes m (n ∷ ns) = if verdict m n then after_nodes (after_node m n) ns else
    (after_node m n, false)

-- the auditor alone
abbrev pub shown_after : List Node → Meaning → Meaning
shown_after ns m = (after_nodes m ns).0

-- it refuses none of the nodes
abbrev pub Admits : List Node → Meaning → Type 0
Admits ns m = (after_nodes m ns).1 ≡ true

-- so it is of each auditor
abbrev pub AllAdmit : List Node → List Meaning → Type 0
AllAdmit ns auditors = AllByRecursion (Admits ns) auditors

-- One auditor refuses a node. None refused a node before it, and no auditor before that one
-- refuses this node. These and that one have seen the node, and those behind it have not.
pub record Refusal (old : List Meaning) (ns : List Node) (new : List Meaning) : Type 0 where
  pub before : List Meaning
  pub one : Meaning
  pub behind : List Meaning
  pub auditors : old ≡ before ++ one ∷ behind
  pub seen : List Node
  pub node : Node
  pub later : List Node
  pub nodes : ns ≡ seen ++ node ∷ later
  pub passed : AllAdmit seen old
  pub admitted : AllAdmit (seen ++ node ∷ []) before
  pub refused : (after_nodes one (seen ++ node ∷ [])).1 ≡ false
  pub states : new ≡ map (shown_after (seen ++ node ∷ [])) (before ++ one ∷ [])
      ++ map (shown_after seen) behind

-- a refusal is told by the auditor's name and by the number of the node
abbrev pub IsShowTold : ShowError → Meaning → ℕ → Type 0
IsShowTold (Objected name number) one n = (name ≡ one.kind.name) × (number ≡ as_count n)
IsShowTold Memory one n = Unit {0}

-- the nodes are shown to the auditors, up to the first that one of them refuses
abbrev pub IsShown : List Meaning → List Node → Result (Unit {0}) ShowError → List Meaning → Type 0
IsShown old ns (Ok x) new = AllAdmit ns old × (new ≡ map (shown_after ns) old)
IsShown old ns (Err e) new = (r : Refusal old ns new) × IsShowTold e r.one (length r.seen + 1)

-- so they are after so many others, and then this many were shown
abbrev pub IsShownAfter : ℕ → List Meaning → List Node → Result ℕ ShowError → List Meaning → Type 0
IsShownAfter k old ns (Ok count) new = AllAdmit ns old × (new ≡ map (shown_after ns) old)
    × (count ≡ as_count (k + length ns))
IsShownAfter k old ns (Err e) new = (r : Refusal old ns new)
    × IsShowTold e r.one (k + length r.seen + 1)
