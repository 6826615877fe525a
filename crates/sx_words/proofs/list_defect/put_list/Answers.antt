use Rattle.sx_words.proofs.list_defect.put_list.Goals as goal

pub returns-in-WrongAt : goal.returns-in-WrongAt
returns-in-WrongAt c = rw c.in-WrongAt.is c.put_number.ensures

pub returns-in-EndsEarly : goal.returns-in-EndsEarly
returns-in-EndsEarly c = rw c.in-EndsEarly.is c.put_words.ensures

pub returns-in-LongList : goal.returns-in-LongList
returns-in-LongList c = rw c.in-LongList.is c.put_number-in-LongList.ensures

pub returns-in-DeepList : goal.returns-in-DeepList
returns-in-DeepList c = rw c.in-DeepList.is c.put_number-in-DeepList.ensures
