use Rattle.std.proofs.Common.{map, sym, ap, ◌∙◌, List}
use Rattle.std.proofs.lemmas.List.{map_push}
use Rattle.sx_words.specs.declared.audit.Audit.{Audit}
use Rattle.sx_words.specs.Commands.{AuditWord, has_kind}
use Rattle.sx_words.specs.View.{audit_view}
use Rattle.sx_words.proofs.KindLaws.{one_more}
use Rattle.sx_words.proofs.options.say.Goals as goal

pub returns-in_ok-push-in-Audit-clause-kinds : goal.returns-in_ok-push-in-Audit-clause-kinds
returns-in_ok-push-in-Audit-clause-kinds c = λ kind.
    let item : Audit = record { kind = c.in_ok-kind-in-Audit.kind; setting = c.in_ok-setting-in-Audit.setting; word = c.in_ok-word-in-Audit.word } in
    let same = c.in_ok-from_slice-in-Audit.ensures.items ∙ sym c.in_ok-kind-in-Audit.ensures in
    let more = one_more c.args.said.now.kinds.keys c.insert.new.self.keys (map audit_view c.args.said.now.audits.items) c.in_ok-from_slice-in-Audit.field-0 (audit_view item) kind same c.in_ok-insert-in-Audit.ensures.keys (c.requires.kinds kind) in
    more ∙ ap (λ (xs : List AuditWord). has_kind xs kind) (sym (map_push audit_view c.args.said.now.audits.items item) ∙ ap (map audit_view) (sym c.in_ok-push-in-Audit.ensures.items))
