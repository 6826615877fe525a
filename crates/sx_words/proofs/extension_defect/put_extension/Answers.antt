use Rattle.sx_words.proofs.extension_defect.put_extension.Goals as goal

pub returns-in-WrongLanguage : goal.returns-in-WrongLanguage
returns-in-WrongLanguage c = rw c.in-WrongLanguage.is c.put_named.ensures

pub returns-in-NoBody : goal.returns-in-NoBody
returns-in-NoBody c = rw c.in-NoBody.is c.put_words.ensures

pub returns-in-BodySort : goal.returns-in-BodySort
returns-in-BodySort c = rw c.in-BodySort.is c.put_words-in-BodySort.ensures

pub returns-in-BodyExtended : goal.returns-in-BodyExtended
returns-in-BodyExtended c = rw c.in-BodyExtended.is c.put_words-in-BodyExtended.ensures

pub returns-in-Twice : goal.returns-in-Twice
returns-in-Twice c = rw c.in-Twice.is c.put_named-in-Twice.ensures

pub returns-in-UsesLater : goal.returns-in-UsesLater
returns-in-UsesLater c = rw c.in-UsesLater.is c.put_named-in-UsesLater.ensures

pub returns-in-Drops : goal.returns-in-Drops
returns-in-Drops c = rw c.in-Drops.is c.put_named-in-Drops.ensures

pub returns-in-NoPlain : goal.returns-in-NoPlain
returns-in-NoPlain c = rw c.in-NoPlain.is c.put_words-in-NoPlain.ensures
