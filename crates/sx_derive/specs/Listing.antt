-- What `derive_list` answers, and lists of derivations in a store.
use Rattle.std.specs.Prelude.{◌≡◌, ℕ, ◌<◌, List, [], ◌∷◌, map, length, Option, Result}
use Rattle.sx_term.specs.Term.{tree}
use Rattle.sx_term.specs.Tree.{Tree}
use Rattle.sx_rules.specs.Derivations.{Proofs}
use Rattle.sx_rules.specs.EntryView.{entries as entries_of}
use Rattle.sx_rules.specs.First.{Answer, IsFirst}
use Rattle.sx_rules.specs.Modes.{Modes, Goal}
use Rattle.sx_rules.specs.Orders.{order_of}
use Rattle.sx_rules.specs.ProofView.{row_of}
use Rattle.sx_rules.specs.Rules.{Rule, Hypotheses}
use Rattle.sx_arena.specs.Arena.{AreBelow}
use Rattle.sx_arena.specs.Matching.{Assignment}
use Rattle.sx_derive.specs.Chains.{HeadFits, head_proof, kids_at}
use Rattle.sx_derive.specs.Deriving.{IsToldBy}
use Rattle.sx_derive.specs.Handing.{answer_in}
use Rattle.sx_derive.specs.Search.{Ending, found, walk}
use Rattle.sx_derive.specs.Store.{IsStore, store_trees, store_envs, store_kids}
use Rattle.sx_derive.specs.Walk.{events}
use Rattle.sx_derive.specs.declared.chains.Head.{Head}
use Rattle.sx_derive.specs.declared.chains.Head.TheVariants.{Given, By}
use Rattle.sx_derive.specs.declared.derive_error.DeriveError.{DeriveError}
use Rattle.sx_derive.specs.declared.listed.Listed.{Listed}
use Rattle.sx_derive.specs.declared.outcome.StoredAnswer.{StoredAnswer}

-- the entries of the derivation in preorder, and its outputs
pub record Lists (l : Listed) (a : Answer) : Type 0 where
  pub entries : entries_of l.entries.items ≡ order_of a.0
  pub outputs : map tree l.outputs.items ≡ a.1

-- the walk found an answer, and this is its list
abbrev pub SaysList : Listed → Ending → Type 0
SaysList l ending = (a : Answer) × (ending ≡ found a) × Lists l a

-- what is answered says how the walk of the goal at depth 1 ends, an answer by its list
abbrev pub IsListed : Modes → Modes → List Rule → Hypotheses → Goal → Option (List Tree) → ℕ →
    Result Listed DeriveError → Type 0
IsListed modes subjects rules hyps goal wanted budget result =
    IsToldBy SaysList modes subjects rules hyps goal budget
    (walk wanted budget (events modes rules hyps goal 1)) result

-- the list is that of the first derivation, which the walk finds
pub record ListsFirst (modes : Modes) (rules : List Rule) (hyps : Hypotheses) (goal : Goal)
    (wanted : Option (List Tree)) (budget : ℕ) (l : Listed) : Type 0 where
  pub answer : Answer
  pub finds : walk wanted budget (events modes rules hyps goal 1) ≡ found answer
  pub lists : Lists l answer
  pub first : IsFirst modes rules hyps goal wanted answer

-- the walk found the answer with these numbers in the store
abbrev pub SaysFound : Modes → List Rule → StoredAnswer → Ending → Type 0
SaysFound modes rules f ending =
    IsStore modes rules f.store
    × HeadFits (length (store_envs f.store)) (length (store_kids f.store)) f.head
    × AreBelow (length (store_trees f.store)) f.outputs.items
    × (ending ≡ found (answer_in f.store f.head f.outputs.items))

-- the chain of the kids of a proof
abbrev pub head_kids : Head → ℕ
head_kids (Given n) = 0
head_kids (By n v env kids) = kids

-- the proofs may stand in the store, and their kids before the chain
abbrev pub HeadsFit : ℕ → ℕ → ℕ → List Head → Type 0
HeadsFit envs kids here [] = Unit {0}
HeadsFit envs kids here (head ∷ heads) =
    HeadFits envs kids head × (head_kids head < here) × HeadsFit envs kids here heads

-- the proofs of a chain from the first to the last
pub record AreHeads (es : List Assignment) (ks : List Proofs) (kids : ℕ) (heads : List Head) : Type
    0 where
  pub fit : HeadsFit (length es) (length ks) kids heads
  pub proofs : kids_at ks kids ≡ row_of (map (head_proof es ks) heads)
