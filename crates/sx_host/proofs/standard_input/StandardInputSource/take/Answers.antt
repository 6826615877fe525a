use Rattle.std.proofs.Common.{ℕ, refl, sym, ◌∙◌, length-take, length-take-le, length-append, arith}
use Rattle.sx_host.proofs.standard_input.StandardInputSource.take.Goals as goal

pub slice_bounds-copy_from_slice-end : goal.slice_bounds-copy_from_slice-end
slice_bounds-copy_from_slice-end c = omega (arith, length-take {A = ℕ}, c.in-Ok.ensures.bound)

pub slice_bounds-copy_from_slice-end-in-Ok : goal.slice_bounds-copy_from_slice-end-in-Ok
slice_bounds-copy_from_slice-end-in-Ok c =
    sym (length-take-le c.in-Ok.count c.args.into.now
    (omega (arith, length-take {A = ℕ}, c.in-Ok.ensures.bound)))

pub copy_from_slice-requires : goal.copy_from_slice-requires
copy_from_slice-requires c =
    length-take-le c.in-Ok.count c.args.into.now
    (omega (arith, length-take {A = ℕ}, c.in-Ok.ensures.bound))
    ∙ sym (length-take-le c.in-Ok.count _
    (omega (arith, length-append {A = ℕ}, c.in-Ok.ensures.bound, c.read.auto.buf)))

pub returns-in-Err-clause-cause : goal.returns-in-Err-clause-cause
returns-in-Err-clause-cause c = λ _ below. omega arith

pub returns-in-Err-clause-only : goal.returns-in-Err-clause-only
returns-in-Err-clause-only c = λ differs. absurd (differs refl)
