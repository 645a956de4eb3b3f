use Rattle.json_index.proofs.index_object.Goals as goal

pub returns : goal.returns
returns c = c.index_to_end.ensures.indexes
