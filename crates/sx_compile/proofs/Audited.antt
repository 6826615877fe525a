-- Plans with the texts of auditors.
use Rattle.std.proofs.Common.{◌≡◌, ℕ, List, map, ap}
use Rattle.sx_audit.specs.Meaning.{Meaning}
use Rattle.sx_unit.specs.Written.{UnitData}
use Rattle.sx_compile.specs.AuditedPlans.{audited_plan}

-- of the same auditors it is the same plan
pub audited_same : {A : Type 0} (xs ys : List A) → xs ≡ ys → (f : A → Meaning)
    (name : List ℕ) (unit : UnitData) →
    audited_plan name unit (map f xs) ≡ audited_plan name unit (map f ys)
audited_same {A} xs ys e f name unit = ap (λ (zs : List A). audited_plan name unit (map f zs)) e
