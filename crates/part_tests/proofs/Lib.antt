mod InheritLaws
