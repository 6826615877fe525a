-- A list has one reading, so it is that of one stage of one derivation at most.
use Rattle.std.proofs.Common.{◌≡◌, ℕ, refl, sym, ap, ◌∙◌}
use Rattle.sx_replay.specs.declared.noted.Noted.{Noted}
use Rattle.sx_replay.specs.Limits.{note, nothing_noted}
use Rattle.sx_replay.specs.Fronts.{DerivationStage, open_one, whole}
use Rattle.sx_replay.specs.Laws.{FrontsAreAlone}
use Rattle.sx_replay.specs.Machine.{ReplayReading, wrong, open_at, ended}
use Rattle.sx_replay.specs.Following.{reading}
use Rattle.sx_replay.proofs.Answered.{IsReadingOf, front_reads}

one_reading : (one other : DerivationStage) (n m : Noted) (d e : ℕ) (r : ReplayReading) → IsReadingOf one n d r → IsReadingOf other m e r → (one ≡ other) × (n ≡ m) × (d ≡ e)
one_reading open_one other n m d e wrong h k = absurd h
one_reading open_one other n m d e (ended outs x l rest) h k = absurd h
one_reading open_one open_one n m d e (open_at g fs x l) h k = (refl, h.0 ∙ sym k.0, h.1 ∙ sym k.1)
one_reading open_one (whole outs) n m d e (open_at g fs x l) h k = absurd k
one_reading (whole outs) other n m d e wrong h k = absurd h
one_reading (whole outs) other n m d e (open_at g fs x l) h k = absurd h
one_reading (whole outs) open_one n m d e (ended os x l rest) h k = absurd k
one_reading (whole outs) (whole others) n m d e (ended os x l rest) h k = (ap whole (h.0 ∙ sym k.0), h.1 ∙ sym k.1, h.2 ∙ sym k.2)

pub fronts_alone : FrontsAreAlone
fronts_alone modes rules hyps moded goal list one other terms others depth level f g =
    let h = front_reads modes rules hyps moded goal one list terms depth f in
    let k = front_reads modes rules hyps moded goal other list others level g in
    let q = one_reading one other (note nothing_noted terms) (note nothing_noted others) depth level (reading modes rules hyps goal list) h k in
    (q.0, ap (λ (n : Noted). n.deep) q.1, ap (λ (n : Noted). n.big) q.1, q.2)
