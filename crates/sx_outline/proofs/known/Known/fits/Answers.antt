use Rattle.sx_outline.specs.View.{known}
use Rattle.sx_outline.proofs.FindLaws.{fits_var, fits_form, fits_plain}
use Rattle.sx_outline.proofs.known.Known.fits.Goals as goal

pub returns-in-Var : goal.returns-in-Var
returns-in-Var c = λ before forms vars. fits_var (known c.args.self.now) before c.args.vars c.in-Var.var c.args.row.now c.var_fits.result c.in-Var.is vars c.var_fits.ensures

pub returns-in-Form : goal.returns-in-Form
returns-in-Form c = λ before forms vars. fits_form (known c.args.self.now) before c.args.forms c.in-Form.form c.args.row.now c.form_fits.result c.in-Form.is forms c.form_fits.ensures

pub returns-in-Plain : goal.returns-in-Plain
returns-in-Plain c = λ before forms vars. fits_plain (known c.args.self.now) before c.in-Plain.plain c.args.row.now c.plain_fits.result c.in-Plain.is c.plain_fits.ensures
