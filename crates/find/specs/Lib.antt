-- `Find` has the definitions that the program's contracts cite, `FindLaws` what they give: the answer is never 6, and the start of a long input is enough.
pub mod Find
pub mod FindLaws
