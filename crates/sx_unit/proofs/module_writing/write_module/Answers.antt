use Rattle.std.proofs.Common.{List, ap, ◌∙◌}
use Rattle.sx_rules.specs.declared.entry.Entry.{Entry as EntryOf}
use Rattle.sx_rules.specs.EntryView.{entries}
use Rattle.sx_unit.specs.Modules.{module_data}
use Rattle.sx_unit.specs.Texts.{derivation_text}
use Rattle.sx_interface.proofs.Lengths.{size_of}
use Rattle.sx_unit.proofs.module_writing.write_module.Goals as goal

pub returns-clause-written : goal.returns-clause-written
returns-clause-written c = λ q is nodes. record {
  base = c.in_ok-base.ensures.text;
  interface = c.in_ok-interface.ensures.text;
  body_good = c.in_ok-base.ensures.good;
  signature_good = c.in_ok-interface.ensures.signature;
  names_free = c.in_ok-interface.ensures.free;
  stated_good = c.in_ok-interface.ensures.stated;
  list = is;
  derivation = c.in_ok-derivation.ensures
      ∙ ap (λ (list : List EntryOf). derivation_text
      (module_data c.args.given.now).source.dialect.language.rules (entries list))
      c.deref-2.ensures.value;
  nodes = size_of c.args.list c.len.result c.len.ensures ∙ nodes;
  base_tokens = c.in_ok-base.ensures.tokens;
}

pub returns-clause-tokens : goal.returns-clause-tokens
returns-clause-tokens c = size_of c.args.body.now.tokens c.len-2.result c.len-2.ensures
