mod SameItems
