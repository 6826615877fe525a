mod ShownGoals
