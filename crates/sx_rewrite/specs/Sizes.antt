-- What is kept of the size of certificates.
use Rattle.std.specs.Prelude.{◌≡◌, ℕ, zero, suc, ◌+◌, ◌-◌, ◌*◌, ◌^◌, ◌<◌, ◌≤◌, min, max, Bool, List}
use Rattle.std.specs.Prelude.{[], ◌∷◌, length, Option, Some, None, if◌then◌else◌, nat_lt}
use Rattle.sx_rules.specs.Rules.{judgements_of}
use Rattle.sx_rules.specs.Derivations.{Proof, height_of}
use Rattle.sx_rewrite.specs.declared.given_use.GivenUse.{GivenUse}
use Rattle.sx_rewrite.specs.declared.certificate_size.CertificateSize.{CertificateSize}
use Rattle.sx_rewrite.specs.Accepted.{Checked}
use Rattle.sx_rewrite.specs.Used.{IsUsed}
use Rattle.sx_rewrite.specs.Measured.{is_used}
use Rattle.sx_rewrite.specs.Copied.{times_given}
use Rattle.sx_rewrite.specs.Counts.{own_nodes, own_height, nodes_above}
use Rattle.sx_rules.specs.Limits.{most_levels}

-- the number, or the greatest u128 where it would pass it
abbrev pub in_u128 : ℕ → ℕ
in_u128 n = min n (2 ^ 128 - 1)

-- the number, or the greatest u64 where it would pass it
abbrev pub in_u64 : ℕ → ℕ
in_u64 n = min n (2 ^ 64 - 1)

-- no given is used yet
abbrev pub unused_givens : ℕ → List GivenUse
unused_givens zero = []
unused_givens (suc n) = record { times = 0; above = 0 } ∷ unused_givens n

-- the uses of the givens from i on, with those in a proof under so many nodes,
-- by how often each stands, whether it does, and how many nodes are above it there
abbrev pub noted_givens : (ℕ → ℕ) → (ℕ → Bool) → (ℕ → ℕ) → ℕ → ℕ → List GivenUse → List GivenUse
noted_givens times stands above over i [] = []
noted_givens times stands above over i (u ∷ us) =
    (if stands i then record {
      times = in_u128 (u.times + times i);
      above = max u.above (over + above i);
    } else u)
    ∷ noted_givens times stands above over (i + 1) us

-- how often the given i stands in the certificate,
-- and how many nodes stand above its deepest place, or 0 where it does not stand
abbrev pub IsUseOf : ℕ → Proof → GivenUse → Type 0
IsUseOf i certificate u =
    (u.times ≡ in_u128 (times_given i certificate))
    × (u.above ≡ (if is_used i certificate then nodes_above i certificate else 0))

-- so it is of the givens from i on
abbrev pub AreUsesOf : ℕ → Proof → List GivenUse → Type 0
AreUsesOf i certificate [] = Unit {0}
AreUsesOf i certificate (u ∷ us) = IsUseOf i certificate u × AreUsesOf (i + 1) certificate us

-- the certificate is no deeper than 3,000, and these are its own nodes, its own height,
-- and the uses of the givens of its rule's premises
pub record IsSizeOf (c : Checked) (size : CertificateSize) : Type 0 where
  pub shallow : height_of c.proof ≤ most_levels
  pub nodes : size.nodes ≡ in_u128 (own_nodes c.proof)
  pub height : size.height ≡ own_height c.proof
  pub many : length size.uses.items ≡ length (judgements_of c.rule.premises)
  pub uses : AreUsesOf 0 c.proof size.uses.items

-- the sizes of the certificates in order
abbrev pub AreSizesOf : List Checked → List CertificateSize → Type 0
AreSizesOf [] [] = Unit {0}
AreSizesOf (c ∷ cs) (size ∷ sizes) = IsSizeOf c size × AreSizesOf cs sizes
AreSizesOf _ _ = ⊥

-- the size of the certificate of what is stored
abbrev pub IsSizeIn : Option Checked → CertificateSize → Type 0
IsSizeIn None size = ⊥
IsSizeIn (Some c) size = IsSizeOf c size

-- no given stands under more than 3,000 nodes
abbrev pub AreGivensNear : List GivenUse → Type 0
AreGivensNear [] = Unit {0}
AreGivensNear (u ∷ us) = (u.above ≤ most_levels) × AreGivensNear us

-- the numbers are those of a certificate that is no deeper than 3,000
abbrev pub IsSmallCertificate : CertificateSize → Type 0
IsSmallCertificate size =
    (in_u128 size.nodes ≡ size.nodes) × (size.height ≤ most_levels) × AreGivensNear size.uses.items

-- the sum of the numbers, each as often as the given at its place is used
abbrev pub used_sum : List GivenUse → List ℕ → ℕ
used_sum [] ns = 0
used_sum (u ∷ us) [] = 0
used_sum (u ∷ us) (n ∷ ns) = u.times * n + used_sum us ns

-- the greatest of the numbers whose givens are used, each with the nodes above it
abbrev pub used_most : List GivenUse → List ℕ → ℕ
used_most [] hs = 0
used_most (u ∷ us) [] = 0
used_most (u ∷ us) (h ∷ hs) = max (if nat_lt 0 u.times then u.above + h else 0) (used_most us hs)

-- what is copied for the kids and in them, where their givens are used
abbrev pub used_copies : List GivenUse → List ℕ → List ℕ → ℕ
used_copies [] ns cs = 0
used_copies (u ∷ us) [] cs = 0
used_copies (u ∷ us) (n ∷ ns) [] = 0
used_copies (u ∷ us) (n ∷ ns) (c ∷ cs) =
    (u.times - 1) * n + (if nat_lt 0 u.times then c else 0) + used_copies us ns cs

-- the certificate of what is stored uses the givens of its rule's premises alone
abbrev pub UsesPremises : Option Checked → Type 0
UsesPremises None = Unit {0}
UsesPremises (Some c) = (i : ℕ) → IsUsed i c.proof → i < length (judgements_of c.rule.premises)
