mod AnswerLemmas
mod CourseLemmas
mod GroupsLemmas
mod HandledLemmas
mod LifeLemmas
mod WorkedLemmas
