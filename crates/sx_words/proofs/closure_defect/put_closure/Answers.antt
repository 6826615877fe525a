use Rattle.sx_words.proofs.closure_defect.put_closure.Goals as goal

pub returns-in-TooManyModules : goal.returns-in-TooManyModules
returns-in-TooManyModules c = rw c.in-TooManyModules.is c.put_words-in-TooManyModules.ensures

pub returns-in-LanguageDiffers : goal.returns-in-LanguageDiffers
returns-in-LanguageDiffers c = rw c.in-LanguageDiffers.is c.put_named.ensures

pub returns-in-CoreDiffers : goal.returns-in-CoreDiffers
returns-in-CoreDiffers c = rw c.in-CoreDiffers.is c.put_words-in-CoreDiffers.ensures
