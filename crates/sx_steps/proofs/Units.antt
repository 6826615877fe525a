-- The three files of a unit.
use Rattle.std.proofs.Common.{◌≡◌, ◌≢◌, ℕ, List, [], ◌∷◌, ◌++◌, map, ap, ◌∙◌, codes, get_or, arith}
use Rattle.std.specs.Prelude.{Some}
use Rattle.sx_outside.specs.Files.{Files, put}
use Rattle.sx_outside.specs.FilesLaws.{put-same, put-other}
use Rattle.sx_steps.specs.declared.work.Output.{Output}
use Rattle.sx_steps.specs.Work.{Plan, file_of}
use Rattle.sx_outside.specs.Files.{File}

-- ---- the plan

pub three_files : (files : List Output) (a b c : Output) (x y z : File) (lines text : List ℕ) → files ≡ a ∷ b ∷ c ∷ [] → file_of a ≡ x → file_of b ≡ y → file_of c ≡ z → lines ≡ text → (let before : Plan = record { files = map file_of files; lines = lines } in before) ≡ (let wanted : Plan = record { files = x ∷ y ∷ z ∷ []; lines = text } in wanted)
three_files files a b c x y z lines text are is_a is_b is_c told = λ i. record { files = (ap (map file_of) are ∙ (λ j. is_a j ∷ is_b j ∷ is_c j ∷ [])) i; lines = told i }

-- ---- what stands after its writes

pub same_end : (name some others : List ℕ) → name ++ some ≡ name ++ others → some ≡ others
same_end [] some others same = same
same_end (b ∷ name) some others same = let rest : name ++ some ≡ name ++ others = cc in same_end name some others rest

base_der : codes ".base" ≢ codes ".der"
base_der same = let letters : ◌≡◌ {A = ℕ} 98 100 = ap (λ (l : List ℕ). get_or l 1 0) same in absurd (omega arith)

base_int : codes ".base" ≢ codes ".int"
base_int same = let letters : ◌≡◌ {A = ℕ} 98 105 = ap (λ (l : List ℕ). get_or l 1 0) same in absurd (omega arith)

der_int : codes ".der" ≢ codes ".int"
der_int same = let letters : ◌≡◌ {A = ℕ} 100 105 = ap (λ (l : List ℕ). get_or l 1 0) same in absurd (omega arith)

-- what stands after three writes under three names
pub written : (name : List ℕ) (base list interface : List ℕ) (old : Files) → (let new : Files = put (put (put old (name ++ codes ".base") base) (name ++ codes ".der") list) (name ++ codes ".int") interface in (new (name ++ codes ".base") ≡ Some base) × (new (name ++ codes ".der") ≡ Some list) × (new (name ++ codes ".int") ≡ Some interface) × ((other : List ℕ) → other ≢ name ++ codes ".base" → other ≢ name ++ codes ".der" → other ≢ name ++ codes ".int" → new other ≡ old other))
written name base list interface old = (
  put-other _ _ _ _ (λ same. base_int (same_end name _ _ same)) ∙ put-other _ _ _ _ (λ same. base_der (same_end name _ _ same)) ∙ put-same _ _ _,
  put-other _ _ _ _ (λ same. der_int (same_end name _ _ same)) ∙ put-same _ _ _,
  put-same _ _ _,
  λ other not_base not_der not_int. put-other _ _ _ _ not_int ∙ put-other _ _ _ _ not_der ∙ put-other _ _ _ _ not_base,
)
