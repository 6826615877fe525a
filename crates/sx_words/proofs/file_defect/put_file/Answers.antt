use Rattle.sx_words.proofs.file_defect.put_file.Goals as goal

pub returns-in-Word : goal.returns-in-Word
returns-in-Word c = rw c.in-Word.is c.put_number.ensures

pub returns-in-Absent : goal.returns-in-Absent
returns-in-Absent c = rw c.in-Absent.is c.put_words.ensures

pub returns-in-TooLong : goal.returns-in-TooLong
returns-in-TooLong c = rw c.in-TooLong.is c.put_words-in-TooLong.ensures

pub returns-in-ReadFault : goal.returns-in-ReadFault
returns-in-ReadFault c = rw c.in-ReadFault.is c.put_words-in-ReadFault.ensures

pub returns-in-WriteFault : goal.returns-in-WriteFault
returns-in-WriteFault c = rw c.in-WriteFault.is c.put_words-in-WriteFault.ensures

pub returns-in-NotUtf8 : goal.returns-in-NotUtf8
returns-in-NotUtf8 c = rw c.in-NotUtf8.is c.put_number-in-NotUtf8.ensures

pub returns-in-Notation : goal.returns-in-Notation
returns-in-Notation c = rw c.in-Notation.is c.put_named.ensures

pub returns-in-Header : goal.returns-in-Header
returns-in-Header c = rw c.in-Header.is c.put_words-in-Header.ensures

pub returns-in-Version : goal.returns-in-Version
returns-in-Version c = rw c.in-Version.is c.put_number-in-Version.ensures

pub returns-in-BadList : goal.returns-in-BadList
returns-in-BadList c = rw c.in-BadList.is c.put_words-in-BadList.ensures
