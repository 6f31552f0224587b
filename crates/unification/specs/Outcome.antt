-- What unifying a list of pairs of nodes comes to.

-- "The answer is unified, clash or occurs."
pub data Outcome : Type 0 where
  unified : Outcome
  clash : Outcome
  occurs : Outcome
