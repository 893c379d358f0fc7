mod TaskLists
